-- The order in which a search decides on the items: those without weight first, then the others by falling
-- value for their weight; equal ones by their numbers.
use Rattle.std.specs.Prelude.{ℕ, zero, suc, ◌*◌, Bool, ◌&&◌, ◌||◌, not, nat_eq, nat_lt, if◌then◌else◌}
use Rattle.std.specs.Prelude.{List, [], ◌∷◌, length}
use Rattle.inst_text.specs.declared.knapsack.Item.{Item}
use Rattle.bb_knap.specs.Plans.{item_at}

-- The first item is worth more for its weight than the second; where it has no weight, where the second has some.
unfoldable pub is_denser : Item → Item → Bool
is_denser a b = if nat_eq a.weight 0 then nat_lt 0 b.weight else nat_lt (b.value * a.weight) (a.value * b.weight)

-- the item with the first number stands before the item with the second
unfoldable pub goes_before : List Item → ℕ → ℕ → Bool
goes_before items j k =
    is_denser (item_at items j) (item_at items k)
    || (not (is_denser (item_at items k) (item_at items j)) && nat_lt j k)

-- the numbers with this one, behind those that it does not stand before
unfoldable pub inserted : List Item → ℕ → List ℕ → List ℕ
inserted items k [] = k ∷ []
inserted items k (j ∷ js) = if goes_before items k j then k ∷ j ∷ js else j ∷ inserted items k js

-- the numbers below n, in order
unfoldable pub order_below : List Item → ℕ → List ℕ
order_below items zero = []
order_below items (suc n) = inserted items n (order_below items n)

-- the numbers of all items, in order
abbrev pub order_of : List Item → List ℕ
order_of items = order_below items (length items)
