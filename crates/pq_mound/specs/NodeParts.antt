-- The mound's nodes as a tree of locked nodes, and how taking and freeing a lock change a seat's view.
use Rattle.std.specs.Prelude.{◌≡◌, ℕ, ◌==◌, ◌-◌, ◌≤◌, List, [], length, Contains}
use mathlib.Core.Bool.{cond}
use Rattle.pq_nodes.specs.Layout.{lock_of}
use Rattle.pq_nodes.specs.Views.{without_guard}
use Rattle.pq_nodes.specs.Parts.{NodePart}
use Rattle.pq_nodes.specs.NodeLaws.{IsNodeTaken}
use Rattle.pq_mound.specs.declared.nodes.Node.{Node}
use Rattle.pq_mound.specs.declared.nodes.Node.TheVariants.{Resting, Hole, Joining}
use Rattle.pq_mound.specs.declared.views.MoundPart.{MoundPart}
use Rattle.pq_mound.specs.Nodes.{cells, numbers}
use Rattle.pq_mound.specs.Chains.{first_or}
use Rattle.pq_mound.specs.Layout.{cells_lock, node_count}
use Rattle.pq_mound.specs.Views.{Guard, with_guards, with_free}

-- the word that names the head of a node's list
abbrev pub head_word : Node → ℕ
head_word v = first_or (numbers (cells v)) 0

-- A word says of a node that its list is at rest, and which cell is its head. None says so of a hole, or of a list that
-- a cell is joining
abbrev pub Means : Node → ℕ → Type 0
Means (Resting list) word = word ≡ head_word (Resting list)
Means (Hole list) word = ⊥
Means (Joining before c behind) word = ⊥

-- The word that is stored names the head of the list that the node counts with
abbrev pub mound_nodes : NodePart MoundPart Node
mound_nodes = record {
  guards = λ v. v.guards;
  with_guards = with_guards;
  empty = Resting [];
  means = Means;
  count = λ k. node_count k.capacity - 1;
  may_free = λ p i. Unit {0};
  may_store = λ p i x. (g : Guard) → Contains p.own.guards g → g.node ≡ i → x ≡ head_word g.counted;
  shows = λ p. Unit {0};
}

-- A lock was taken. Where it is that over the free cells, the view names them, and their count is as its word says.
-- Where it is that of a node, the view has behind its other guards one for the node, which counts as its word says.
pub record IsLockTaken (capacity : ℕ) (v : MoundPart) (lock : ℕ) (w : MoundPart) : Type 0 where
  pub cells : lock ≡ cells_lock
      → (free : List ℕ) × (length free ≤ capacity) × (w ≡ with_free v free (length free))
  pub node : (i : ℕ) → lock ≡ lock_of i → IsNodeTaken mound_nodes v i w

-- a lock was freed: the view names no free cells any more, or has the node's guard no more
abbrev pub freed : MoundPart → ℕ → MoundPart
freed v lock = cond (lock == cells_lock) (with_free v [] 0) (with_guards v (without_guard lock v.guards))
