-- How a call of the program ends: the status that it came to, and what it did to its streams.
use Rattle.std.specs.Prelude.{ℕ, ◌≡◌, ◌≢◌, ◌+◌, ◌⊎◌, List, [], drop, Option, Some, None, IfSome, MatchOption}
use Rattle.pq_io.specs.declared.text.fault.BadInput.{BadInput}
use Rattle.pq_io.specs.Inputs.{longest_input}
use Rattle.cli_words.specs.declared.command.Command.{Command}
use Rattle.pq_cli.specs.declared.refusal.Refusal.{Refusal}
use Rattle.pq_cli.specs.declared.refusal.Refusal.TheVariants as refusals
use Rattle.pq_cli.specs.declared.status.Status.{Status}
use Rattle.pq_cli.specs.declared.status.Status.TheVariants as statuses
use Rattle.pq_cli.specs.Commands.{duty_of}
use Rattle.pq_cli.specs.Duties.{Duty, Reads, Writes}
use Rattle.pq_cli.specs.Refusals.{status_of}
use Rattle.pq_cli.specs.Reports.{fault_text}
use Rattle.pq_cli.specs.Statuses.{IsAnswered}
use Rattle.pq_cli.specs.Streams.{Change, IsSame, IsFailed, IsSound, HasFailedOnce, WereLeft, IsTaken, IsGained}
use Rattle.pq_cli.specs.Streams.{IsGainedInPart}
use Rattle.pq_cli.specs.Work.{Work, fault_of, HasEnough, IsLimited, IsFilled}

-- The input held bytes to which this is an answer, and was taken to its end.
pub record AnswersInput {I : Type 0} (work : Work) (status : Status) (text : List ℕ) (input : Change I) : Type 0 where
  pub bytes : List ℕ
  pub taken : IsTaken input bytes
  pub ended : IsAnswered status
  pub answer : work.IsAnswer bytes status text

-- No input was read: it is as it was. And this is the text.
pub record AnswersAlone {I : Type 0} (own : List ℕ) (status : Status) (text : List ℕ) (input : Change I) : Type 0 where
  pub unread : IsSame input
  pub ended : status ≡ statuses.Ok
  pub answer : text ≡ own

abbrev pub Answers : {I : Type 0} → Duty → Status → List ℕ → Change I → Type 0
Answers (Reads work) status text input = AnswersInput work status text input
Answers (Writes own) status text input = AnswersAlone own status text input

-- The input held bytes that have no reading for the work, with this first fault. It was taken to its end, or to one
-- byte more than an input may have, and no read failed.
pub record IsFaulty {I : Type 0} (work : Work) (fault : BadInput) (input : Change I) : Type 0 where
  pub bytes : List ℕ
  pub were_left : WereLeft input bytes
  pub faulty : fault_of work bytes ≡ Some fault
  pub taken : IfSome (input.told input.old) (λ left. (input.told input.new ≡ Some [])
      ⊎ (input.told input.new ≡ Some (drop (longest_input + 1) left)))
  pub sound : IsSound input

-- The input held bytes of which this holds, and was taken to its end.
pub record HeldBytes {I : Type 0} (fact : List ℕ → Type 0) (input : Change I) : Type 0 where
  pub bytes : List ℕ
  pub taken : IsTaken input bytes
  pub holds : fact bytes

-- Why the work has no answer to the input. That there is no memory needs no cause. The first read that fails ends the
-- call, and only a read fault says that one failed.
abbrev pub StopsWork : {I : Type 0} → Work → Change I → Refusal → Type 0
StopsWork work input (refusals.BadInput fault) = IsFaulty work fault input
StopsWork work input (refusals.NodeLimit asked limit) = HeldBytes (λ bytes. IsLimited work bytes asked limit) input
StopsWork work input (refusals.Full place) = HeldBytes (λ bytes. IsFilled work bytes place) input
StopsWork work input refusals.ReadFault = HasFailedOnce input
StopsWork work input refusals.NoMemory = IsSound input
StopsWork work input refusals.ProofLimit = HeldBytes work.IsTooLong input

-- Where no input is read, only want of memory stops a command, and the input is as it was.
abbrev pub Stops : {I : Type 0} → Duty → Change I → Refusal → Type 0
Stops (Reads work) input refusal = StopsWork work input refusal
Stops (Writes own) input refusal = IsSame input × (refusal ≡ refusals.NoMemory)

-- The whole answer was written, and no write failed.
pub record IsWhole {I O : Type 0} (duty : Duty) (status : Status) (input : Change I) (output : Change O) : Type 0 where
  pub text : List ℕ
  pub answers : Answers duty status text input
  pub written : IsGained output text
  pub sound : IsSound output

-- There is no answer, and the output is as it was.
pub record IsStopped {I O : Type 0} (duty : Duty) (status : Status)
    (input : Change I) (output : Change O) : Type 0 where
  pub refusal : Refusal
  pub named : status ≡ status_of refusal
  pub stops : Stops duty input refusal
  pub same : IsSame output

-- There is an answer, a prefix of which was written, and not all of it: a write failed, which was the last.
pub record IsCut {I O : Type 0} (duty : Duty) (status : Status) (input : Change I) (output : Change O) : Type 0 where
  pub answered : Status
  pub text : List ℕ
  pub named : status ≡ statuses.WriteFault
  pub answers : Answers duty answered text input
  pub written : IsGainedInPart output text
  pub failed : HasFailedOnce output

-- A command ended in one of three ways.
abbrev pub Ends : {I O : Type 0} → Duty → Status → Change I → Change O → Type 0
Ends duty status input output =
    IsWhole duty status input output ⊎ (IsStopped duty status input output ⊎ IsCut duty status input output)

-- No command was said, or there was no memory to see to it; and input and output are as they were.
pub record IsUnread {I O : Type 0} (status : Status) (input : Change I) (output : Change O) : Type 0 where
  pub cause : (status ≡ statuses.BadWords) ⊎ (status ≡ statuses.NoMemory)
  pub unread : IsSame input
  pub unwritten : IsSame output

-- What a call came to whose words said this command, or none.
abbrev pub IsRun : {I O : Type 0} → Option Command → Status → Change I → Change O → Type 0
IsRun said status input output =
    MatchOption said (IsUnread status input output) (λ c. Ends (duty_of c) status input output)

-- The text was written without a fault, and the status stays; or a prefix of it was, and a write failed, which was the
-- last.
abbrev pub IsWritten : {S : Type 0} → List ℕ → Status → Status → Change S → Type 0
IsWritten text status ended stream = ((ended ≡ status) × IsGained stream text × IsSound stream)
    ⊎ ((ended ≡ statuses.WriteFault) × HasFailedOnce stream × IsGainedInPart stream text)

-- How the status that a call came to was reported: with an answer nothing is; else its line was written, and the call
-- ends with it, or a prefix of that line was, and the call ends with a write fault.
pub record IsReported {E : Type 0} (status ended : Status) (faults : Change E) : Type 0 where
  pub silent : IsAnswered status → (ended ≡ status) × IsSame faults
  pub line : IsWritten (fault_text status) status ended faults

-- The status that a call came to whose words said this command, or none, and how it was reported.
pub record IsRunAndReported {I O E : Type 0} (said : Option Command) (ended : Status)
    (input : Change I) (output : Change O) (faults : Change E) : Type 0 where
  pub status : Status
  pub ran : IsRun said status input output
  pub reported : IsReported status ended faults

-- No fault is kept silent: where the call does not end with a read fault or a write fault, no read failed, and where it
-- does not end with a write fault, no write did.
pub record TellsFaults {I O E : Type 0} (ended : Status)
    (input : Change I) (output : Change O) (faults : Change E) : Type 0 where
  pub read : ended ≢ statuses.ReadFault → ended ≢ statuses.WriteFault → IsSound input
  pub written : ended ≢ statuses.WriteFault → IsSound output × IsSound faults

-- The command that was said has an answer, which was written whole.
pub record IsAnsweredWhole {I O : Type 0} (said : Option Command) (status : Status)
    (input : Change I) (output : Change O) : Type 0 where
  pub command : Command
  pub is : said ≡ Some command
  pub whole : IsWhole (duty_of command) status input output

-- Where the input has a reading for the work, its limits are enough and no count of faults rose, there is an answer,
-- or no memory. Where no input is read, a count that did not rise is enough.
abbrev pub IsComplete : {I O E : Type 0} → Duty → Status → Change I → Change O → Change E → Type 0
IsComplete (Reads work) status input output faults = IfSome (input.told input.old) (λ bytes.
    fault_of work bytes ≡ None → HasEnough work bytes →
    ¬ IsFailed input → ¬ IsFailed output → ¬ IsFailed faults → IsAnswered status ⊎ (status ≡ statuses.NoMemory))
IsComplete (Writes own) status input output faults =
    ¬ IsFailed output → ¬ IsFailed faults → IsAnswered status ⊎ (status ≡ statuses.NoMemory)
