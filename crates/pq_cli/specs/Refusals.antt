-- What becomes of a refusal on its way up.
use Rattle.std.specs.Prelude.{List, Bool, true, false, Result, Ok, Err}
use Rattle.pq_io.specs.declared.text.fault.ReadRefusal.{ReadRefusal}
use Rattle.pq_io.specs.declared.text.fault.ReadRefusal.TheVariants as reads
use Rattle.pq_io.specs.declared.input.InputRefusal.{InputRefusal}
use Rattle.pq_io.specs.declared.input.InputRefusal.TheVariants as inputs
use Rattle.bb_proof.specs.declared.made.Made.{Made}
use Rattle.bb_proof.specs.declared.made.Made.TheVariants as made
use Rattle.bb_pool.specs.declared.outcome.Outcome.{Outcome}
use Rattle.bb_pool.specs.declared.outcome.Outcome.TheVariants as outcomes
use Rattle.pq_cli.specs.declared.refusal.Refusal.{Refusal}
use Rattle.pq_cli.specs.declared.refusal.Refusal.TheVariants as refusals
use Rattle.cli_words.specs.declared.reading.WordsRefusal.{WordsRefusal}
use Rattle.cli_words.specs.declared.reading.WordsRefusal.TheVariants as words
use Rattle.pq_cli.specs.declared.status.Status.{Status}
use Rattle.pq_cli.specs.declared.status.Status.TheVariants as statuses

-- of a reading
abbrev pub of_reading : ReadRefusal → Refusal
of_reading (reads.BadInput fault) = refusals.BadInput fault
of_reading reads.NoMemory = refusals.NoMemory

-- of gathering the input
abbrev pub of_input : InputRefusal → Refusal
of_input (inputs.BadInput fault) = refusals.BadInput fault
of_input inputs.ReadFault = refusals.ReadFault
of_input inputs.NoMemory = refusals.NoMemory

-- of a search: its plan stays its plan
abbrev pub plan_of : {P : Type 0} → Outcome P → Result P Refusal
plan_of (outcomes.Best plan cost) = Ok plan
plan_of (outcomes.NodeLimit asked limit) = Err (refusals.NodeLimit asked limit)
plan_of (outcomes.Full place) = Err (refusals.Full place)
plan_of outcomes.NoMemory = Err refusals.NoMemory

-- a limit of the search ended it
abbrev pub is_stopped : {P : Type 0} → Outcome P → Bool
is_stopped (outcomes.NodeLimit asked limit) = true
is_stopped (outcomes.Full place) = true
is_stopped _ = false

-- of making a proof: the proof stays the proof
abbrev pub made_of : Made → Result (List Bool) Refusal
made_of (made.Proof tokens) = Ok tokens
made_of made.TooLong = Err refusals.ProofLimit
made_of made.NoMemory = Err refusals.NoMemory

-- of the words
abbrev pub of_words : WordsRefusal → Status
of_words words.BadWords = statuses.BadWords
of_words words.NoMemory = statuses.NoMemory

-- of a command
abbrev pub status_of : Refusal → Status
status_of (refusals.BadInput fault) = statuses.BadInput fault
status_of (refusals.NodeLimit asked limit) = statuses.NodeLimit asked limit
status_of (refusals.Full place) = statuses.Full place
status_of refusals.ReadFault = statuses.ReadFault
status_of refusals.NoMemory = statuses.NoMemory
status_of refusals.ProofLimit = statuses.ProofLimit
