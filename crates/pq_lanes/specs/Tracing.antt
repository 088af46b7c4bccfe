-- The history that comes of a script.
use Rattle.std.specs.Prelude.{ℕ, ◌≡◌, ◌+◌, List, length}
use Rattle.pq_model.specs.declared.marks.Act.{Act}
use Rattle.pq_model.specs.declared.marks.Mark.{Mark}
use Rattle.pq_model.specs.History.{IsLegal}
use Rattle.pq_model.specs.Passes.{calls_of}
use Rattle.pq_api.specs.Answers.{EachAt}
use Rattle.pq_lanes.specs.Lanes.{acts_of}

-- A legal history of a queue of this capacity with a seat for each lane of the script. The marks of each lane's seat,
-- which are numbered from 1 on, are the lane's commands, in order, each once; and there are no other marks.
pub record IsTraceOf (capacity : ℕ) (script : List (List Act)) (marks : List Mark) : Type 0 where
  pub legal : IsLegal (length script) capacity marks
  pub lanes : EachAt (λ k (acts : List Act). acts_of (calls_of (k + 1) marks) ≡ acts) script
