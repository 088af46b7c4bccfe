-- Why a command has no answer to an input: a refusal of gathering it, or of the work on its bytes.
use Rattle.std.proofs.Common.{◌≡◌, ◌<◌, ◌≤◌, ◌⊎◌, inl, inr, IfSome, ℕ, List, length, Option, None, Some, true, Ok, Err, arith}
use Rattle.std.proofs.lemmas.Bool.Decides.{nat_tests}
use Rattle.pq_io.specs.Streams.{faults_after}
use Rattle.pq_io.specs.Inputs.{longest_input, too_large, has_failed, ExplainsInput}
use Rattle.pq_io.specs.declared.input.InputRefusal.{InputRefusal}
use Rattle.pq_io.specs.declared.input.InputRefusal.TheVariants as inputs
use Rattle.pq_cli.specs.declared.refusal.Refusal.{Refusal}
use Rattle.pq_cli.specs.declared.refusal.Refusal.TheVariants as refusals
use Rattle.pq_cli.specs.Refusals.{of_input}
use Rattle.pq_cli.specs.Work.{Work, fault_of, Explains}
use Rattle.pq_cli.specs.Streams.{Change, IsTaken}
use Rattle.pq_cli.specs.Duties.{Duty, Reads, Writes, reads_input, IsInput, Fulfils}
use Rattle.pq_cli.specs.Answers.{status_in, text_in, IsWritable}
use Rattle.pq_cli.specs.declared.answer.Answer.{Answer}
use Rattle.pq_cli.specs.Runs.{StopsWork, Stops, Answers}

long_is_too_large : (work : Work) (bytes : List ℕ) → longest_input < length bytes → fault_of work bytes ≡ Some too_large
long_is_too_large work bytes long = grind (arith, nat_tests)

within_is_first : (work : Work) (bytes : List ℕ) → length bytes ≤ longest_input → fault_of work bytes ≡ work.first_fault bytes
within_is_first work bytes within = grind (arith, nat_tests)

taken_in_part : {A : Type 0} (before : Option A) (P Q : A → Type 0) → IfSome before Q → IfSome before (λ x. P x ⊎ Q x)
taken_in_part None P Q h = tt
taken_in_part (Some x) P Q h = inr h

taken_whole : {A : Type 0} (before : Option A) (P Q : A → Type 0) → IfSome before P → IfSome before (λ x. P x ⊎ Q x)
taken_whole None P Q h = tt
taken_whole (Some x) P Q h = inl h

-- a refusal of gathering the input
input_stops : {S : Type 0} (work : Work) (input : Change S) (refusal : InputRefusal) →
    ExplainsInput (input.told input.old) (input.told input.new) (input.faults input.old) (input.faults input.new) refusal →
    input.faults input.new ≡ faults_after (has_failed (Err refusal)) (input.faults input.old) →
    StopsWork work input (of_input refusal)
input_stops work input (inputs.BadInput fault) h once = record {
  bytes = h.1.bytes;
  were_left = h.1.were_left;
  faulty = rw h.0 (long_is_too_large work h.1.bytes h.1.long);
  taken = taken_in_part (input.told input.old) _ _ h.1.taken;
  sound = once;
}
input_stops work input inputs.ReadFault h once = once
input_stops work input inputs.NoMemory h once = once

-- a refusal of the work on bytes that were taken whole
work_stops : {S : Type 0} (work : Work) (bytes : List ℕ) (input : Change S) (refusal : Refusal) →
    IsTaken input bytes → length bytes ≤ longest_input → Explains work bytes refusal → StopsWork work input refusal
work_stops work bytes input (refusals.BadInput fault) taken within h = record {
  bytes = bytes;
  were_left = taken.were_left;
  faulty = rw (within_is_first work bytes within) h;
  taken = taken_whole (input.told input.old) _ _ taken.end;
  sound = taken.sound;
}
work_stops work bytes input (refusals.NodeLimit asked limit) taken within h = record { bytes = bytes; taken = taken; holds = h }
work_stops work bytes input (refusals.Full place) taken within h = record { bytes = bytes; taken = taken; holds = h }
work_stops work bytes input refusals.ReadFault taken within h = absurd h
work_stops work bytes input refusals.NoMemory taken within h = taken.sound
work_stops work bytes input refusals.ProofLimit taken within h = record { bytes = bytes; taken = taken; holds = h }

-- the same of a command that reads an input
pub duty_input_stops : {S : Type 0} (duty : Duty) (input : Change S) (refusal : InputRefusal) → reads_input duty ≡ true →
    ExplainsInput (input.told input.old) (input.told input.new) (input.faults input.old) (input.faults input.new) refusal →
    input.faults input.new ≡ faults_after (has_failed (Err refusal)) (input.faults input.old) →
    Stops duty input (of_input refusal)
duty_input_stops (Reads work) input refusal reads h once = input_stops work input refusal h once
duty_input_stops (Writes own) input refusal reads h once = absurd (cc)

pub duty_stops : {S : Type 0} (duty : Duty) (bytes : List ℕ) (input : Change S) (refusal : Refusal) →
    IsInput duty input bytes → Fulfils duty bytes (Err refusal) → Stops duty input refusal
duty_stops (Reads work) bytes input refusal is h = work_stops work bytes input refusal is.0 is.1 h
duty_stops (Writes own) bytes input refusal is h = (is, h)

pub duty_answers : {S : Type 0} (duty : Duty) (bytes : List ℕ) (input : Change S) (answer : Answer) →
    IsInput duty input bytes → Fulfils duty bytes (Ok answer) → Answers duty (status_in answer) (text_in answer) input
duty_answers (Reads work) bytes input answer is h = record { bytes = bytes; taken = is.0; ended = h.0; answer = h.1 }
duty_answers (Writes own) bytes input answer is h = record { unread = is; ended = h.0; answer = h.1 }

pub duty_writable : (duty : Duty) (bytes : List ℕ) (answer : Answer) → Fulfils duty bytes (Ok answer) → IsWritable answer
duty_writable (Reads work) bytes answer h = h.2
duty_writable (Writes own) bytes answer h = h.2

-- what comes of a duty that is fulfilled
pub ruleset fulfilled = (duty_answers, duty_writable, duty_stops)
