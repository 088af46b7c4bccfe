-- The heap's nodes as a tree of locked nodes, and how taking and freeing a lock change a seat's view.
use Rattle.std.specs.Prelude.{◌≡◌, ◌≤◌, ℕ, ◌==◌, List, [], Contains}
use Rattle.pq_words.specs.declared.entries.Entry.{Entry}
use Rattle.pq_seats.specs.declared.views.Post.{Post}
use mathlib.Core.Bool.{cond}
use Rattle.pq_nodes.specs.Layout.{lock_of}
use Rattle.pq_nodes.specs.Views.{without_guard}
use Rattle.pq_nodes.specs.Parts.{NodePart}
use Rattle.pq_nodes.specs.NodeLaws.{IsNodeTaken}
use Rattle.pq_hunt.specs.declared.nodes.Node.{Node}
use Rattle.pq_hunt.specs.declared.nodes.Node.TheVariants.{Empty, Busy}
use Rattle.pq_hunt.specs.declared.views.HuntPart.{HuntPart}
use Rattle.pq_hunt.specs.Layout.{heap_lock}
use Rattle.pq_hunt.specs.Words.{Means}
use Rattle.pq_hunt.specs.Views.{with_guards, with_size}
use Rattle.pq_hunt.specs.Guards.{Guard}
use Rattle.pq_hunt.specs.Nodes.{used}

-- no two of these guards' nodes are Busy of one owner
abbrev pub HaveOwnersApart : List Guard → Type 0
HaveOwnersApart guards = (g f : Guard) (o : ℕ) (e d : Entry) → Contains guards g → Contains guards f
    → g.counted ≡ Busy o e
    → f.counted ≡ Busy o d → g.node ≡ f.node

-- by a seat that holds the heap's lock: none of the nodes that it guards is Empty, from the root up to the size
abbrev pub AreUsed : Post HuntPart → Type 0
AreUsed p = Contains p.locks heap_lock → (g : Guard) → Contains p.own.guards g → 1 ≤ g.node
    → g.node ≤ p.own.size_counted → used g.counted ≡ 1

-- The root's lock is freed by who owes no letter. A load of a node's word tells that the seat's Busy nodes have owners
-- of their own, and that no node up to the size is Empty
abbrev pub hunt_nodes : NodePart HuntPart Node
hunt_nodes = record {
  guards = λ v. v.guards;
  with_guards = with_guards;
  empty = Empty;
  means = Means;
  count = λ k. k.capacity;
  may_free = λ p i. i ≡ 1 → p.owed ≡ [];
  may_store = λ p i x. Unit {0};
  shows = λ p. HaveOwnersApart p.own.guards × AreUsed p;
}

-- A lock was taken. Where it is that over the size, the view names the size, which counts as its word says. Where it is
-- that of a node, the view has behind its other guards one for the node, which counts as its word says.
pub record IsLockTaken (capacity : ℕ) (v : HuntPart) (lock : ℕ) (w : HuntPart) : Type 0 where
  pub heap : lock ≡ heap_lock → (size : ℕ) × (size ≤ capacity) × (w ≡ with_size v size size)
  pub node : (i : ℕ) → lock ≡ lock_of i → IsNodeTaken hunt_nodes v i w

-- a lock was freed: the view names no size any more, or has the node's guard no more
abbrev pub freed : HuntPart → ℕ → HuntPart
freed v lock = cond (lock == heap_lock) (with_size v 0 0) (with_guards v (without_guard lock v.guards))
