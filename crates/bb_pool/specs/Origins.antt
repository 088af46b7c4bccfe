-- Where the numbers come from that a search by several workers drew: all but the root's were drawn for children of a
-- node that was taken.
use Rattle.std.specs.Prelude.{ℕ, ◌≡◌, ◌≢◌, ◌+◌, ◌<◌, ◌≤◌, ◌==◌, nat_eq, nat_le, nat_lt, ◌&&◌, Bool, if◌then◌else◌}
use Rattle.std.specs.Prelude.{List, [], ◌∷◌, ◌++◌, length, All, Contains, count_by, slice_index_or}
use Rattle.std.specs.Prelude.{◌⊎◌, Option, Some, None}
use Rattle.std.specs.List.{IsDistinct}
use Rattle.bb_problem.specs.Tree.{below}
use Rattle.bb_problem.specs.Meaning.{Meaning}
use Rattle.bb_problem.specs.Expanding.{StandBelow}
use Rattle.pq_numbers.specs.declared.draws.Draw.{Draw}
use Rattle.bb_shared.specs.declared.store.stored.Numbered.{Numbered}
use Rattle.bb_shared.specs.declared.store.stored.Stored.{Stored}
use Rattle.bb_shared.specs.Stores.{times}
use Rattle.pq_numbers.specs.Draws.{times_drawn}
use Rattle.bb_pool.specs.Costs.{is_better}
use Rattle.bb_pool.specs.Working.{kept_of}

-- Numbers that were drawn for children of a node, and which of its children these are, by the node's name.
pub record Origin (N : Type 0) : Type 0 where
  pub draw : Draw
  pub parent : Numbered N
  pub parts : List ℕ → List ℕ

-- The numbers are above the node's. Where the node has a name, there is a child for each number, and no child twice.
pub record IsOrigin {N L : Type 0} (m : Meaning N L) (o : Origin N) : Type 0 where
  pub above : o.parent.number < o.draw.first
  pub many : (name : List ℕ) → m.stands o.parent.node name → length (o.parts name) ≡ o.draw.count
  pub children : (name : List ℕ) → m.stands o.parent.node name → All (Contains (m.tree.children name)) (o.parts name)
  pub apart : (name : List ℕ) → m.stands o.parent.node name → IsDistinct nat_eq (o.parts name)

-- the node was put under one of these numbers, and is the child that the number is for
pub record IsChildOf {N L : Type 0} (m : Meaning N L) (o : Origin N) (p : Numbered N) : Type 0 where
  pub place : ℕ
  pub within : place < o.draw.count
  pub number : p.number ≡ o.draw.first + place
  pub follows : (name : List ℕ) → m.stands o.parent.node name
      → m.stands p.node (below name (slice_index_or (o.parts name) place 0))

abbrev pub is_drawn : ℕ → Draw → Bool
is_drawn x d = nat_le d.first x && nat_lt x (d.first + d.count)

-- 1 for the number that was drawn for the root
abbrev pub roots_at : ℕ → Option ℕ → ℕ
roots_at x None = 0
roots_at x (Some number) = if number == x then 1 else 0

-- The numbers that a seat drew are the root's, if it drew that, and those of the origins. Each origin is of another
-- node that was taken, and of none of those that are not expanded yet. Each node that was put is the root, or a child
-- by an origin.
pub record HasOrigins {N L : Type 0} (m : Meaning N L) (root : Option ℕ) (held : List (Numbered N)) (s : Stored N)
    : Type 0 where
  pub origins : List (Origin N)
  pub each : (o : Origin N) → Contains origins o → IsOrigin m o
  pub taken : (o : Origin N) → Contains origins o → Contains s.takes o.parent
  pub still : (p : Numbered N) → Contains held p → Contains s.takes p
  pub drawn : (x : ℕ) → times_drawn x s.draws ≡ roots_at x root + count_by (λ (o : Origin N). is_drawn x o.draw) origins
  pub once : (x : ℕ) → count_by (λ (o : Origin N). o.parent.number == x) origins + times x held ≤ times x s.takes
  pub put : (p : Numbered N) → Contains s.puts p
      → ((root ≡ Some p.number) × m.stands p.node []) ⊎ ((o : Origin N) × Contains origins o × IsChildOf m o p)

-- Where no node is held, it was so before and is so now, whatever number the root has.
abbrev pub KeepsOrigins : {N L : Type 0} → Meaning N L → Stored N → Stored N → Type 0
KeepsOrigins m s t = (root : Option ℕ) → HasOrigins m root [] s → HasOrigins m root [] t

-- It is so, and the origin is one of them.
pub record IsAmongOrigins {N L : Type 0} (m : Meaning N L) (root : Option ℕ) (o : Origin N) (s : Stored N)
    : Type 0 where
  pub traced : HasOrigins m root [] s
  pub has : Contains traced.origins o

-- It is so of workers that were joined into one. Only the first of all draws a number for the root.
abbrev pub HasOriginsFrom : {N L : Type 0} → Meaning N L → ℕ → Stored N → Type 0
HasOriginsFrom m from s = (root : Option ℕ) × (from ≢ 1 → root ≡ None) × HasOrigins m root [] s

-- of these parts, which lead to nodes with these bounds, those whose nodes are kept
abbrev pub kept_parts : Option ℕ → List ℕ → List ℕ → List ℕ
kept_parts best [] _ = []
kept_parts best (k ∷ ks) [] = []
kept_parts best (k ∷ ks) (key ∷ keys) =
    if is_better key best then k ∷ kept_parts best ks keys else kept_parts best ks keys

-- Those of the nodes that are kept are the origin's children from this number on.
pub record AreLeftOf {N L : Type 0} (m : Meaning N L) (best : Option ℕ) (o : Origin N) (number : ℕ) (nodes : List N)
    (keys : List ℕ) : Type 0 where
  pub place : ℕ
  pub number_is : number ≡ o.draw.first + place
  pub count : place + length (kept_of best nodes keys) ≡ o.draw.count
  pub parts : (name : List ℕ) → m.stands o.parent.node name → (before ks : List ℕ)
      × (o.parts name ≡ before ++ kept_parts best ks keys) × (length before ≡ place) × StandBelow m.stands name nodes ks
