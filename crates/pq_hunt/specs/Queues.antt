-- A heap's table between two calls, and when it is closed.
use Rattle.std.specs.Prelude.{◌≡◌, ℕ, ◌+◌, ◌≤◌, List, length}
use Rattle.pq_seats.specs.declared.shared.Shared.{Shared}
use Rattle.pq_seats.specs.declared.shared.SeatPass.{SeatPass}
use Rattle.pq_seats.specs.Views.{empty_post}
use Rattle.pq_seats.specs.Passes.{view_of, Belongs}
use Rattle.pq_hunt.specs.declared.nodes.Node.{Node}
use Rattle.pq_hunt.specs.declared.nodes.Node.TheVariants.{Empty}
use Rattle.pq_hunt.specs.declared.views.HuntPart.{HuntPart}
use Rattle.pq_hunt.specs.Nodes.{node}
use Rattle.pq_nodes.specs.Facts.{words_in}
use Rattle.pq_hunt.specs.Words.{Means}
use Rattle.pq_hunt.specs.Views.{idle}

-- The pass is one of this table, and no call of it is under way: it holds no lock, has no insert in flight and owes no
-- letter
abbrev pub Rests : {R : Type 0} → Shared R HuntPart → SeatPass R HuntPart → Type 0
Rests q p = Belongs q p × ((view_of p).post ≡ empty_post idle p.number)

-- the words of a closed table say what each of its nodes counts as
pub record SayNodes (capacity : ℕ) (words : List ℕ) (nodes : List Node) : Type 0 where
  pub long : length nodes ≡ capacity + 1
  pub first : node nodes 0 ≡ Empty
  pub means : (i : ℕ) → 1 ≤ i → i ≤ capacity → Means (node nodes i) (words_in words i)
