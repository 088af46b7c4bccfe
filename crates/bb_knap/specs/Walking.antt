-- A walk through a knapsack's tree in preorder.
use Rattle.std.specs.Prelude.{ℕ, ◌≡◌, ◌<◌, Bool, true, false, if◌then◌else◌}
use Rattle.std.specs.Prelude.{List, [], ◌∷◌, ◌++◌, length, map, slice_index_or}
use Rattle.inst_text.specs.Knapsack.{Instance}
use Rattle.bb_problem.specs.Tree.{below}
use Rattle.bb_knap.specs.Branching.{children_of, Node, Stands}

-- an instance, and the names of the nodes that a walk through its tree still has to come to, the next one first
pub record Walk : Type 0 where
  pub instance : Instance
  pub pending : List (List ℕ)

-- the names of a node's children, in their order
abbrev pub names_below : Instance → List ℕ → List (List ℕ)
names_below i name = map (below name) (children_of i name)

-- decisions as numbers: 1 to take the item, and 0 to leave it
abbrev pub decision : Bool → ℕ
decision taken = if taken then 1 else 0

abbrev pub decisions : List Bool → List ℕ
decisions path = map decision path

-- Behind each item that the path takes, from a node on: the node that leaves it instead, the last one first.
unfoldable pub left_instead : List ℕ → List Bool → List (List ℕ)
left_instead name [] = []
left_instead name (true ∷ path) = left_instead (below name 1) path ++ below name 0 ∷ []
left_instead name (false ∷ path) = left_instead (below name 0) path

-- what is still to come to from the node that the path leads to
abbrev pub pending_at : Bool → List Bool → List (List ℕ)
pending_at over path = if over then [] else decisions path ∷ left_instead [] path

-- the path leads to a node, which has this room and this value
abbrev pub LeadsTo : Instance → List Bool → ℕ → ℕ → Type 0
LeadsTo i path room value =
    let node : Node = record { decisions = decisions path; room = room; value = value } in
    Stands i node (decisions path)

-- the path takes the item at this place, and none behind it
pub record IsLastTaken (path : List Bool) (place : ℕ) : Type 0 where
  pub inside : place < length path
  pub taken : slice_index_or path place false ≡ true
  pub later : (k : ℕ) → place < k → k < length path → slice_index_or path k false ≡ false
