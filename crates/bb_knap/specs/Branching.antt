-- The tree of decisions on a knapsack's items, and Dantzig's bound.
use Rattle.std.specs.Prelude.{ℕ, zero, suc, ◌≡◌, ◌+◌, ◌-◌, ◌*◌, ◌/◌, ◌≤◌, ◌^◌, nat_le, if◌then◌else◌}
use Rattle.std.specs.Prelude.{List, [], ◌∷◌, ◌++◌, length, drop, min, max}
use Rattle.std.specs.List.Sorted.{IsPermutation}
use Rattle.inst_text.specs.declared.knapsack.Item.{Item}
use Rattle.inst_text.specs.Knapsack.{Instance, total_value}
use Rattle.bb_problem.specs.Tree.{Tree}
use Rattle.bb_problem.specs.Meaning.{Meaning}
use Rattle.bb_knap.specs.Plans.{item_at, weight_of, value_of, IsChoiceOf, IsFeasible, cost_of}
use Rattle.bb_knap.specs.Order.{order_of}

-- The numbers that decisions take: one decision on each number, from the first on. A decision is 1 to take the
-- item and 0 to leave it; what is not decided is not taken.
unfoldable pub taken : List ℕ → List ℕ → List ℕ
taken [] decisions = []
taken (k ∷ ks) [] = []
taken (k ∷ ks) (zero ∷ decisions) = taken ks decisions
taken (k ∷ ks) (suc one ∷ decisions) = k ∷ taken ks decisions

-- Dantzig's bound: the items in this order, whole while they fit into the room that is left, and of the first
-- that does not fit the part that fills the room, its value rounded down.
unfoldable pub dantzig : List Item → ℕ → List ℕ → ℕ
dantzig items room [] = 0
dantzig items room (k ∷ ks) =
    if nat_le (item_at items k).weight room
    then (item_at items k).value + dantzig items (room - (item_at items k).weight) ks
    else room * (item_at items k).value / (item_at items k).weight

-- the items that decisions on the first ones take
abbrev pub taken_of : Instance → List ℕ → List ℕ
taken_of i decisions = taken (order_of i.items) decisions

-- the items that they do not decide on
abbrev pub rest_of : Instance → List ℕ → List ℕ
rest_of i decisions = drop (length decisions) (order_of i.items)

-- what the taken items leave of the capacity
abbrev pub room_of : Instance → List ℕ → ℕ
room_of i decisions = i.capacity - weight_of i.items (taken_of i decisions)

-- the values of all items, but those of the taken ones and at most what the rest can bring
unfoldable pub bound_of : Instance → List ℕ → ℕ
bound_of i decisions =
    total_value i.items - value_of i.items (taken_of i decisions)
    - dantzig i.items (room_of i decisions) (rest_of i decisions)

-- To take the next item, where it fits, and to leave it; nothing where no item is left.
unfoldable pub choices_at : List Item → ℕ → List ℕ → List ℕ
choices_at items room [] = []
choices_at items room (k ∷ ks) = if nat_le (item_at items k).weight room then 1 ∷ 0 ∷ [] else 0 ∷ []

unfoldable pub children_of : Instance → List ℕ → List ℕ
children_of i decisions = choices_at i.items (room_of i decisions) (rest_of i decisions)

-- the tree: a node's name is its decisions
abbrev pub tree_of : Instance → Tree
tree_of i = record { children = children_of i; bound = bound_of i; height = length i.items }

-- how many nodes the tree has at most, or 2^64 where that is less
abbrev pub tree_size : Instance → ℕ
tree_size i = min (2 ^ (length i.items + 1)) (2 ^ 64)

-- Decisions that go on from these take items that fit, and leave at most this value behind.
pub record Reaches (i : Instance) (decisions : List ℕ) (v : ℕ) : Type 0 where
  pub more : List ℕ
  pub fits : weight_of i.items (taken_of i (decisions ++ more)) ≤ i.capacity
  pub cost : total_value i.items ≤ v + value_of i.items (taken_of i (decisions ++ more))

-- a node: its decisions, the room that the taken items leave, and their value
pub record Node : Type 0 where
  pub decisions : List ℕ
  pub room : ℕ
  pub value : ℕ

-- the node of the instance with these decisions; the items that they take fit
pub record Stands (i : Instance) (node : Node) (name : List ℕ) : Type 0 where
  pub decisions : node.decisions ≡ name
  pub depth : length name ≤ length i.items
  pub room : node.room + weight_of i.items (taken_of i name) ≡ i.capacity
  pub value : node.value ≡ value_of i.items (taken_of i name)

-- A choice of just the items that these decisions take, which weighs and is worth what they do.
pub record IsPlanOf (i : Instance) (decisions choice : List ℕ) : Type 0 where
  pub chosen : IsChoiceOf i choice
  pub same : IsPermutation (taken_of i decisions) choice
  pub weight : weight_of i.items choice ≡ weight_of i.items (taken_of i decisions)
  pub value : value_of i.items choice ≡ value_of i.items (taken_of i decisions)

-- the greatest value of some of these items that fit into the room
unfoldable pub best_value : ℕ → List Item → ℕ
best_value room [] = 0
best_value room (x ∷ xs) =
    if nat_le x.weight room
    then max (x.value + best_value (room - x.weight) xs) (best_value room xs)
    else best_value room xs

-- the least cost of a feasible choice
abbrev pub least_cost : Instance → ℕ
least_cost i = total_value i.items - best_value i.capacity i.items

-- Dantzig's bound of all items with the whole capacity.
abbrev pub root_bound : Instance → ℕ
root_bound i = dantzig i.items i.capacity (order_of i.items)

-- what an instance means to a search: its choices, and the tree of decisions
abbrev pub meaning_of : Instance → Meaning Node (List ℕ)
meaning_of i = record {
  is_feasible = IsFeasible i;
  cost_of = cost_of i;
  least = least_cost i;
  tree = tree_of i;
  tree_size = tree_size i;
  stands = Stands i;
  reaches = Reaches i;
}
