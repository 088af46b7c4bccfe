-- Which choices of a knapsack's items are feasible, what they are worth and what they cost.
use Rattle.std.specs.Prelude.{ℕ, ◌+◌, ◌-◌, ◌≤◌, List, [], ◌∷◌, length, slice_index_or}
use Rattle.inst_text.specs.declared.knapsack.Item.{Item}
use Rattle.inst_text.specs.Knapsack.{Instance, AreNumbers, total_value}

-- the item with this number; past the last one, an item of no weight and no value
abbrev pub item_at : List Item → ℕ → Item
item_at items k = slice_index_or items k (record { weight = 0; value = 0 })

-- the total weight of the items with these numbers
abbrev pub weight_of : List Item → List ℕ → ℕ
weight_of items [] = 0
weight_of items (k ∷ ks) = (item_at items k).weight + weight_of items ks

-- their total value
abbrev pub value_of : List Item → List ℕ → ℕ
value_of items [] = 0
value_of items (k ∷ ks) = (item_at items k).value + value_of items ks

-- rising numbers of the instance's items
abbrev pub IsChoiceOf : Instance → List ℕ → Type 0
IsChoiceOf i choice = AreNumbers 0 (length i.items) choice

-- a choice whose total weight is at most the capacity
pub record IsFeasible (i : Instance) (choice : List ℕ) : Type 0 where
  pub chosen : IsChoiceOf i choice
  pub fits : weight_of i.items choice ≤ i.capacity

-- what a choice costs: the value that it leaves behind
abbrev pub cost_of : Instance → List ℕ → ℕ
cost_of i choice = total_value i.items - value_of i.items choice

-- a feasible choice that no feasible choice betters
pub record IsBest (i : Instance) (choice : List ℕ) : Type 0 where
  pub feasible : IsFeasible i choice
  pub best : (other : List ℕ) → IsFeasible i other → value_of i.items other ≤ value_of i.items choice

-- a feasible choice that costs no more than any other
pub record IsCheapest (i : Instance) (choice : List ℕ) : Type 0 where
  pub feasible : IsFeasible i choice
  pub cheapest : (other : List ℕ) → IsFeasible i other → cost_of i choice ≤ cost_of i other
