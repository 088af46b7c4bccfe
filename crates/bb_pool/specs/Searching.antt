-- Where a search stands: what it has found, and where it has still to look.
use Rattle.std.specs.Prelude.{ℕ, ◌≡◌, ◌+◌, ◌-◌, ◌≤◌, ◌<◌, List, [], ◌∷◌, length, slice_get, slice_index_or}
use Rattle.std.specs.Prelude.{All, Contains, ◌⊎◌, Option, Some, None, IsTrue}
use Rattle.pq_words.specs.declared.entries.Entry.{Entry}
use Rattle.bb_problem.specs.Tree.{Tree, need, needed, unavoidable_from, unavoidable, open_from, open_at_first, total}
use Rattle.bb_problem.specs.Meaning.{Meaning}
use Rattle.bb_pool.specs.Costs.{is_better}

-- the name of the node with this number
abbrev pub name_at : List (List ℕ) → ℕ → List ℕ
name_at names n = slice_index_or names n []

-- how many nodes a search has to make below the node of this name
abbrev pub need_at : Tree → ℕ → List ℕ → ℕ
need_at tree least name = need tree least (tree.height - length name) name

-- how many nodes no search gets around from the node of this name on
abbrev pub unavoidable_at : Tree → ℕ → List ℕ → ℕ
unavoidable_at tree least name = unavoidable_from tree least (tree.height - length name) name

-- how many nodes are open at the fewest at the first leaf from the node of this name on
abbrev pub open_by : Tree → List ℕ → ℕ
open_by tree name = open_from tree (tree.height - length name) name

-- An entry stands for a node in the store: its id is the node's number, and its key the node's bound.
pub record StandsFor {N P : Type 0} (m : Meaning N P) (names : List (List ℕ)) (store : List (Option N)) (e : Entry)
    : Type 0 where
  pub node : N
  pub stored : slice_get store e.id ≡ Some (Some node)
  pub named : m.stands node (name_at names e.id)
  pub keyed : e.key ≡ m.tree.bound (name_at names e.id)

-- no two of these entries have one id
abbrev pub IdsDiffer : List Entry → Type 0
IdsDiffer [] = Unit {0}
IdsDiffer (e ∷ es) = All (λ (f : Entry). f.id ≡ e.id → ⊥) es × IdsDiffer es

-- this cost is reached from a node that one of the entries stands for
abbrev pub IsUnderEntry : (List ℕ → ℕ → Type 0) → List (List ℕ) → List Entry → ℕ → Type 0
IsUnderEntry reaches names entries v = (e : Entry) × Contains entries e × reaches (name_at names e.id) v

-- this cost is reached from a node of one of these names
abbrev pub IsUnderName : (List ℕ → ℕ → Type 0) → List (List ℕ) → ℕ → Type 0
IsUnderName reaches waiting v = (name : List ℕ) × Contains waiting name × reaches name v

-- Each cost that is reached from the root and is below the best so far is reached from a node in the queue, or
-- from one that waits to be put into it.
abbrev pub IsStillToFind : (List ℕ → ℕ → Type 0) → List (List ℕ) → List Entry → List (List ℕ) → Option ℕ → Type 0
IsStillToFind reaches names entries waiting best =
    (v : ℕ) → reaches [] v → IsTrue (is_better v best)
    → IsUnderEntry reaches names entries v ⊎ IsUnderName reaches waiting v

-- With so many nodes open, this one among them, no fewer are open at the first leaf from it on than at the fewest.
abbrev pub IsAhead : Tree → ℕ → List ℕ → Type 0
IsAhead tree count name = open_at_first tree < count + open_by tree name

-- Before a plan is found, all open nodes are ahead; since then, the capacity has had room for those that were open at
-- the first leaf.
abbrev pub AreAhead : Tree → ℕ → List (List ℕ) → List Entry → List (List ℕ) → Option ℕ → Type 0
AreAhead tree capacity names entries waiting None = let count = length entries + length waiting in
    All (λ (e : Entry). IsAhead tree count (name_at names e.id)) entries × All (IsAhead tree count) waiting
AreAhead tree capacity names entries waiting (Some best) = open_at_first tree ≤ capacity

-- The count of a search at one moment: how many nodes were made, the names of the nodes by number, the entries in
-- the queue, and the names of the nodes that wait.
pub record IsCounted (tree : Tree) (least capacity made : ℕ) (names : List (List ℕ)) (entries : List Entry)
    (waiting : List (List ℕ)) (best : Option ℕ) : Type 0 where
  -- the nodes made, those that wait, and what all open nodes still need are never more than are needed in all
  pub budget : made + total (λ (e : Entry). need_at tree least (name_at names e.id)) entries
      + total (λ (name : List ℕ). 1 + need_at tree least name) waiting ≤ needed tree least
  -- what no search gets around is made, or waits, or is below a node that is open
  pub around : unavoidable tree least
      ≤ made + total (λ (e : Entry). unavoidable_at tree least (name_at names e.id) - 1) entries
      + total (unavoidable_at tree least) waiting
  pub ahead : AreAhead tree capacity names entries waiting best

-- The search at one moment: the names of the nodes made so far by number, the entries in the queue, the store,
-- the names of the nodes that wait to be put into both, and the cost of the best plan so far.
pub record IsSearching {N P : Type 0} (m : Meaning N P) (capacity : ℕ) (names : List (List ℕ)) (entries : List Entry)
    (store : List (Option N)) (waiting : List (List ℕ)) (best : Option ℕ) : Type 0 where
  pub count : length names ≡ length store
  pub each : All (StandsFor m names store) entries
  pub differ : IdsDiffer entries
  pub few : length entries ≤ length store
  pub fits : length entries ≤ capacity
  pub to_find : IsStillToFind m.reaches names entries waiting best
  pub counted : IsCounted m.tree m.least capacity (length store) names entries waiting best
