-- What the heap's nodes count as in any state in which the whole rule holds, by its words and views.
use Rattle.std.specs.Prelude.{◌≡◌, ◌≢◌, ℕ, ◌≤◌, slice_index, Contains}
use Rattle.pq_seats.specs.declared.views.Limits.{Limits}
use Rattle.pq_seats.specs.declared.views.View.{View}
use Rattle.pq_seats.specs.Rules.{Table, Holds, Stands}
use Rattle.pq_hunt.specs.Guards.{Guard}
use Rattle.pq_hunt.specs.declared.views.HuntPart.{HuntPart}
use Rattle.pq_hunt.specs.Nodes.{node}
use Rattle.pq_nodes.specs.Layout.{lock_of, word_of}
use Rattle.pq_hunt.specs.Words.{Means}
use Rattle.pq_hunt.specs.Rules.{hunt_rule}

-- The seat j, with this view, holds the node's lock, and has this guard for it: the node's word is the one that the
-- guard names, and the node counts as the guard says
pub record IsGuardOf (k : Limits) (s : Table HuntPart) (h : Holds hunt_rule k s) (i j : ℕ) (v : View HuntPart)
    (g : Guard) : Type 0 where
  pub stands : Stands hunt_rule s j v
  pub number : v.post.number ≡ slice_index s.words (lock_of i)
  pub lock : Contains v.post.locks (lock_of i)
  pub has : Contains v.post.own.guards g
  pub is : g.node ≡ i
  pub stored : slice_index s.words (word_of i) ≡ g.stored
  pub counted : node h.tied.nodes i ≡ g.counted

-- a node that is not locked counts as its word says
abbrev pub FreeNodesCountByWord : Type 0
FreeNodesCountByWord = (k : Limits) (s : Table HuntPart) (h : Holds hunt_rule k s) (i : ℕ) → 1 ≤ i → i ≤ k.capacity
    → slice_index s.words (lock_of i) ≡ 0 → Means (node h.tied.nodes i) (slice_index s.words (word_of i))

-- and one that is locked as its holder's view says
abbrev pub LockedNodesCountByGuard : Type 0
LockedNodesCountByGuard = (k : Limits) (s : Table HuntPart) (h : Holds hunt_rule k s) (i : ℕ) → 1 ≤ i → i ≤ k.capacity
    → slice_index s.words (lock_of i) ≢ 0
    → (j : ℕ) × (v : View HuntPart) × (g : Guard) × IsGuardOf k s h i j v g
