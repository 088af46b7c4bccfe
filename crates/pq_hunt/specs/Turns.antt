-- What a turn of an insert comes to.
use Rattle.std.specs.Prelude.{◌≡◌, ℕ, ◌≤◌}
use Rattle.std.specs.declared.ops.ControlFlow.{ControlFlow}
use Rattle.std.specs.declared.ops.ControlFlow.TheVariants.{Continue, Break}
use Rattle.pq_words.specs.declared.entries.Entry.{Entry}
use Rattle.pq_model.specs.declared.marks.Act.TheVariants.{Insert}
use Rattle.pq_model.specs.declared.marks.Reply.TheVariants as replies
use Rattle.pq_api.specs.Answers.{MakesCall}
use Rattle.pq_seats.specs.declared.shared.Shared.{Shared}
use Rattle.pq_seats.specs.declared.shared.SeatPass.{SeatPass}
use Rattle.pq_seats.specs.Views.{empty_post}
use Rattle.pq_seats.specs.Passes.{limits_of, view_of, known, IsInformed}
use Rattle.pq_hunt.specs.declared.views.HuntPart.{HuntPart}
use Rattle.pq_hunt.specs.Views.{idle}
use Rattle.pq_nodes.specs.Passes.{ComesTo}
use Rattle.pq_hunt.specs.HeldPosts.{in_flight}

-- The insert is done at this place, and the seat holds nothing
pub record IsDone {R : Type 0} (q : Shared R HuntPart) (p p' : SeatPass R HuntPart) (e : Entry)
    (place : ℕ) : Type 0 where
  pub rests : (view_of p').post ≡ empty_post idle p.number
  pub call : MakesCall (known p) place (Insert e) replies.Done (known p')
  pub knows : IsInformed q p'

-- The seat looks for its entry at this node next
pub record IsAt {R : Type 0} (q : Shared R HuntPart) (p p' : SeatPass R HuntPart) (e : Entry) (node : ℕ) : Type 0 where
  pub low : 1 ≤ node
  pub high : node ≤ (limits_of q).capacity
  pub flies : ComesTo (view_of p) (view_of p') (in_flight p.number e node)

-- A turn breaks with the place where the insert is done, or continues with the node to look at next
abbrev pub IsTurned : {R : Type 0} → Shared R HuntPart → SeatPass R HuntPart → SeatPass R HuntPart → Entry
    → ControlFlow ℕ ℕ → Type 0
IsTurned q p p' e (Break place) = IsDone q p p' e place
IsTurned q p p' e (Continue node) = IsAt q p p' e node
