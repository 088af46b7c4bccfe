-- Lists of guards, and how a step changes them.
use Rattle.std.specs.Prelude.{◌≢◌, ℕ, ◌==◌, List, [], ◌∷◌, map, Contains}
use mathlib.Core.Bool.{cond}
use Rattle.pq_nodes.specs.declared.guards.Guard.{Guard}
use Rattle.pq_nodes.specs.Layout.{lock_of, word_of}

abbrev pub guard : {N : Type 0} → ℕ → ℕ → N → Guard N
guard node stored counted = record { node = node; stored = stored; counted = counted }

-- the nodes that they guard
abbrev pub nodes_of : {N : Type 0} → List (Guard N) → List ℕ
nodes_of gs = map (λ g. g.node) gs

-- no two of the guards are of one node
abbrev pub HaveNodesApart : {N : Type 0} → List (Guard N) → Type 0
HaveNodesApart [] = Unit {0}
HaveNodesApart {N} (g ∷ gs) = ((h : Guard N) → Contains gs h → h.node ≢ g.node) × HaveNodesApart gs

-- no guard is of this node
abbrev pub AreOthers : {N : Type 0} → ℕ → List (Guard N) → Type 0
AreOthers node [] = Unit {0}
AreOthers node (g ∷ gs) = (g.node ≢ node) × AreOthers node gs

-- the locks of these guards' nodes, the last one first, before these locks
abbrev pub locks_of : {N : Type 0} → List (Guard N) → List ℕ → List ℕ
locks_of [] locks = locks
locks_of (g ∷ gs) locks = locks_of gs (lock_of g.node ∷ locks)

-- the guards but that of the node with this lock
abbrev pub without_guard : {N : Type 0} → ℕ → List (Guard N) → List (Guard N)
without_guard lock [] = []
without_guard lock (g ∷ gs) = cond (lock_of g.node == lock) (without_guard lock gs) (g ∷ without_guard lock gs)

-- the word at this index was stored, under the lock of the node that it is of, which counts as it did
abbrev pub restored : {N : Type 0} → ℕ → ℕ → List (Guard N) → List (Guard N)
restored word x [] = []
restored word x (g ∷ gs) = cond (word_of g.node == word) (guard g.node x g.counted ∷ gs) (g ∷ restored word x gs)

-- the word of the second guard's node was stored in that of the first, and the two nodes count in each other's place
abbrev pub exchanged : {N : Type 0} → List (Guard N) → List (Guard N)
exchanged [] = []
exchanged (g ∷ []) = g ∷ []
exchanged (g ∷ h ∷ gs) = guard g.node h.stored h.counted ∷ guard h.node h.stored g.counted ∷ gs

-- the same of the third guard's
abbrev pub exchanged_third : {N : Type 0} → List (Guard N) → List (Guard N)
exchanged_third [] = []
exchanged_third (g ∷ []) = g ∷ []
exchanged_third (g ∷ f ∷ []) = g ∷ f ∷ []
exchanged_third (g ∷ f ∷ h ∷ gs) = guard g.node h.stored h.counted ∷ f ∷ guard h.node h.stored g.counted ∷ gs

-- the first guard's node was stored, and counts as this
abbrev pub refilled : {N : Type 0} → ℕ → N → List (Guard N) → List (Guard N)
refilled x counted [] = []
refilled x counted (g ∷ gs) = guard g.node x counted ∷ gs
