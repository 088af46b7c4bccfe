-- What a command is to do, and why it has no answer to an input.
use Rattle.std.specs.Prelude.{ℕ, ◌≡◌, ◌≤◌, nat_le, min, if◌then◌else◌, List, length, Option, Some, None}
use Rattle.std.specs.Prelude.{IfSome, MatchOption, Result, Ok, Err}
use Rattle.pq_io.specs.declared.text.fault.BadInput.{BadInput}
use Rattle.pq_io.specs.Inputs.{longest_input, too_large}
use Rattle.bb_problem.specs.Meaning.{Meaning}
use Rattle.bb_problem.specs.Tree.{needed}
use Rattle.bb_pool.specs.Outcomes.{IsOverLimit, IsFullAt}
use Rattle.pq_cli.specs.declared.answer.Answer.{Answer}
use Rattle.cli_words.specs.declared.limits.Limits.{Limits}
use Rattle.pq_cli.specs.declared.refusal.Refusal.{Refusal}
use Rattle.pq_cli.specs.declared.refusal.Refusal.TheVariants as refusals
use Rattle.pq_cli.specs.declared.status.Status.{Status}
use Rattle.pq_cli.specs.Answers.{status_in, text_in, IsWritable}
use Rattle.pq_cli.specs.Statuses.{IsAnswered}
use Rattle.pq_cli.specs.Using.{IsBestPlan, HaveRoom}

-- A search, with its limits.
pub record Search : Type 0 where
  pub limits : Limits
  -- how many nodes it has to make for the instance that the bytes read as
  pub needs : List ℕ → ℕ

-- The work of a command that reads an input.
pub record Work : Type 1 where
  -- the first fault of bytes within the longest input; none where they have a reading
  pub first_fault : List ℕ → Option BadInput
  -- the text is the answer to the bytes, and ends with this status
  pub IsAnswer : List ℕ → Status → List ℕ → Type 0
  -- the search that it makes, if any
  pub search : Option Search
  -- the proof that it would write of its answer to the bytes has more tokens than a proof may have
  pub IsTooLong : List ℕ → Type 0

-- the first fault of an input; a longer one has no reading, whatever the command
abbrev pub fault_of : Work → List ℕ → Option BadInput
fault_of work bytes = if nat_le (length bytes) longest_input then work.first_fault bytes else Some too_large

-- the fault that a reading came to; none where it gave a value
abbrev pub fault_in : {A : Type 0} → Result A BadInput → Option BadInput
fault_in (Ok value) = None
fault_in (Err fault) = Some fault

-- a search of the instance that the bytes read as asked for more nodes than its limit
abbrev pub IsLimited : Work → List ℕ → ℕ → ℕ → Type 0
IsLimited work bytes asked limit = (work.first_fault bytes ≡ None)
    × MatchOption work.search ⊥ (λ s. IsOverLimit (s.needs bytes) s.limits.nodes asked limit)

-- it found the queue full at this place
abbrev pub IsFilled : Work → List ℕ → ℕ → Type 0
IsFilled work bytes place = (work.first_fault bytes ≡ None)
    × MatchOption work.search ⊥ (λ s. IsFullAt (s.needs bytes) s.limits.nodes s.limits.capacity place)

-- The node limit and the capacity are enough for what the search has to make, and the proof is not too long.
pub record HasEnough (work : Work) (bytes : List ℕ) : Type 0 where
  pub for_search : IfSome work.search (λ s.
      (s.needs bytes ≤ s.limits.nodes) × (min s.limits.nodes (s.needs bytes) ≤ s.limits.capacity))
  pub for_proof : ¬ work.IsTooLong bytes

-- The cause of each refusal of the work on these bytes.
abbrev pub Explains : Work → List ℕ → Refusal → Type 0
Explains work bytes (refusals.BadInput fault) = work.first_fault bytes ≡ Some fault
Explains work bytes (refusals.NodeLimit asked limit) = IsLimited work bytes asked limit
Explains work bytes (refusals.Full place) = IsFilled work bytes place
Explains work bytes refusals.ReadFault = ⊥
Explains work bytes refusals.NoMemory = Unit {0}
Explains work bytes refusals.ProofLimit = work.IsTooLong bytes

-- What a search within these limits came to: a best plan, or a refusal and its cause.
abbrev pub IsPlanned : {N P : Type 0} → Meaning N P → Limits → Result P Refusal → Type 0
IsPlanned m limits (Ok plan) = IsBestPlan m plan × HaveRoom limits m.tree m.least
IsPlanned m limits (Err (refusals.BadInput fault)) = ⊥
IsPlanned m limits (Err (refusals.NodeLimit asked limit)) =
    IsOverLimit (needed m.tree m.least) limits.nodes asked limit
IsPlanned m limits (Err (refusals.Full place)) =
    IsFullAt (needed m.tree m.least) limits.nodes limits.capacity place
IsPlanned m limits (Err refusals.ReadFault) = ⊥
IsPlanned m limits (Err refusals.NoMemory) = Unit {0}
IsPlanned m limits (Err refusals.ProofLimit) = ⊥

-- What the work on these bytes came to: its answer, or a refusal and its cause.
abbrev pub Meets : Work → List ℕ → Result Answer Refusal → Type 0
Meets work bytes (Ok answer) =
    IsAnswered (status_in answer) × work.IsAnswer bytes (status_in answer) (text_in answer) × IsWritable answer
Meets work bytes (Err refusal) = Explains work bytes refusal
