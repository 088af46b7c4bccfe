-- Words that are read as no command, and how a call ends there.
use Rattle.std.proofs.Common.{◌≡◌, inl, inr, refl, ap, Option, None, Some, Err}
use Rattle.cli_words.specs.declared.command.Command.{Command}
use Rattle.pq_cli.specs.declared.refusal.Refusal.TheVariants as refusals
use Rattle.pq_cli.specs.declared.status.Status.TheVariants as statuses
use Rattle.cli_words.specs.declared.reading.WordsRefusal.{WordsRefusal}
use Rattle.cli_words.specs.declared.reading.WordsRefusal.TheVariants.{BadWords, NoMemory}
use Rattle.cli_words.specs.CommandWords.{IsReadAs}
use Rattle.pq_cli.specs.Commands.{duty_of}
use Rattle.pq_cli.specs.Duties.{Duty, Reads, Writes}
use Rattle.pq_cli.specs.Refusals.{of_words}
use Rattle.pq_cli.specs.Streams.{Change, IsSame}
use Rattle.pq_cli.specs.Runs.{Stops, IsRun}

stops_for_memory : {I : Type 0} (duty : Duty) (input : Change I) → IsSame input → Stops duty input refusals.NoMemory
stops_for_memory (Reads work) input same = ap input.faults same
stops_for_memory (Writes own) input same = (same, refl)

no_memory : {I O : Type 0} (said : Option Command) (input : Change I) (output : Change O) → IsSame input → IsSame output → IsRun said statuses.NoMemory input output
no_memory None input output unread unwritten = record { cause = inr refl; unread = unread; unwritten = unwritten }
no_memory (Some c) input output unread unwritten =
    inr (inl (record { refusal = refusals.NoMemory; named = refl; stops = stops_for_memory (duty_of c) input unread; same = unwritten }))

bad_words : {I O : Type 0} (said : Option Command) (input : Change I) (output : Change O) → said ≡ None → IsSame input → IsSame output → IsRun said statuses.BadWords input output
bad_words None input output none unread unwritten = record { cause = inl refl; unread = unread; unwritten = unwritten }
bad_words (Some c) input output none unread unwritten = absurd (cc)

-- words that were refused
pub refused_run : {I O : Type 0} (said : Option Command) (refusal : WordsRefusal) (input : Change I) (output : Change O) →
    IsReadAs said (Err refusal) → IsSame input → IsSame output → IsRun said (of_words refusal) input output
refused_run said BadWords input output none unread unwritten = bad_words said input output none unread unwritten
refused_run said NoMemory input output none unread unwritten = no_memory said input output unread unwritten
