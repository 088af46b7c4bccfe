-- What a command is to do: work on an input, or a text of its own.
use Rattle.std.specs.Prelude.{ℕ, ◌≡◌, ◌≤◌, Bool, true, false, List, length, Result, Ok, Err}
use Rattle.pq_io.specs.Inputs.{longest_input}
use Rattle.pq_cli.specs.declared.answer.Answer.{Answer}
use Rattle.pq_cli.specs.declared.refusal.Refusal.{Refusal}
use Rattle.pq_cli.specs.declared.refusal.Refusal.TheVariants as refusals
use Rattle.pq_cli.specs.declared.status.Status.TheVariants as statuses
use Rattle.pq_cli.specs.Answers.{status_in, text_in, IsWritable}
use Rattle.pq_cli.specs.Streams.{Change, IsSame, IsTaken}
use Rattle.pq_cli.specs.Work.{Work, Meets}

-- Work on an input; or to write this text, for which no input is read.
pub data Duty : Type 1 where
  Reads : Work → Duty
  Writes : List ℕ → Duty

-- whether an input is read
abbrev pub reads_input : Duty → Bool
reads_input (Reads work) = true
reads_input (Writes text) = false

-- The bytes are those that the input held, and it was taken to its end; where none is read, it was left alone.
abbrev pub IsInput : {S : Type 0} → Duty → Change S → List ℕ → Type 0
IsInput (Reads work) input bytes = IsTaken input bytes × (length bytes ≤ longest_input)
IsInput (Writes text) input bytes = IsSame input

-- The text was made, or there was no memory for it.
abbrev pub IsMade : List ℕ → Result Answer Refusal → Type 0
IsMade text (Ok answer) = (status_in answer ≡ statuses.Ok) × (text_in answer ≡ text) × IsWritable answer
IsMade text (Err refusal) = refusal ≡ refusals.NoMemory

-- What the command came to on these bytes; where no input is read, they do not matter.
abbrev pub Fulfils : Duty → List ℕ → Result Answer Refusal → Type 0
Fulfils (Reads work) bytes result = Meets work bytes result
Fulfils (Writes text) bytes result = IsMade text result
