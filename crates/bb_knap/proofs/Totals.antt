-- What choices are worth against the total of all values.
use Rattle.std.proofs.Common.{◌≡◌, ℕ, zero, suc, ◌+◌, ◌<◌, ◌≤◌, List, [], ◌∷◌, length, drop, get_or, refl, add-one, arith}
use Rattle.std.proofs.lemmas.List.{at_drop_more}
use Rattle.inst_text.specs.declared.knapsack.Item.{Item}
use Rattle.inst_text.specs.Knapsack.{AreNumbers, total_value}
use Rattle.bb_knap.specs.Plans.{item_at, value_of}
pub use Rattle.bb_knap.specs.TreeLawsHold.InOrder.{weight_of-append, value_of-append}

-- behind the first k of no items there is no value
total_value-drop-nil : (k : ℕ) → total_value (drop k []) ≡ 0
total_value-drop-nil zero = refl
total_value-drop-nil (suc k) = refl

-- the same, with the next number as a successor
total_value-drop-suc : (items : List Item) (k : ℕ) → total_value (drop k items) ≡ (item_at items k).value + total_value (drop (suc k) items)
total_value-drop-suc [] zero = refl
total_value-drop-suc [] (suc k) = refl
total_value-drop-suc (i ∷ is) zero = refl
total_value-drop-suc (i ∷ is) (suc k) = total_value-drop-suc is k

-- the values from one item on: its own, and those behind it
pub total_value-drop : (items : List Item) (k : ℕ) → total_value (drop k items) ≡ (item_at items k).value + total_value (drop (k + 1) items)
total_value-drop items k = rw (add-one k) (total_value-drop-suc items k)

-- fewer items are worth no more
pub total_value-drop-le : (items : List Item) (low k : ℕ) → low ≤ k → total_value (drop k items) ≤ total_value (drop low items)
total_value-drop-le [] low k le = omega (arith, total_value-drop-nil low, total_value-drop-nil k)
total_value-drop-le (i ∷ is) zero zero le = omega arith
total_value-drop-le (i ∷ is) zero (suc k) le = omega (arith, total_value-drop-le is zero k (omega arith))
total_value-drop-le (i ∷ is) (suc low) zero le = absurd (omega arith)
total_value-drop-le (i ∷ is) (suc low) (suc k) le = total_value-drop-le is low k (omega arith)

-- rising numbers of items are worth at most all items from the least on
pub value_of-le-drop : (items : List Item) (low n : ℕ) (ks : List ℕ) → AreNumbers low n ks → value_of items ks ≤ total_value (drop low items)
value_of-le-drop items low n [] numbers = omega arith
value_of-le-drop items low n (k ∷ ks) numbers =
    omega (arith, value_of-le-drop items (k + 1) n ks numbers.2, total_value-drop items k, total_value-drop-le items low k numbers.0)

-- a choice is worth at most all items
pub value_of-le : (items : List Item) (n : ℕ) (ks : List ℕ) → AreNumbers 0 n ks → value_of items ks ≤ total_value items
value_of-le items n ks numbers = value_of-le-drop items 0 n ks numbers

-- each number of a choice is that of an item
pub AreNumbers-get_or : (low n : ℕ) (ks : List ℕ) (i d : ℕ) → AreNumbers low n ks → i < length ks → get_or ks i d < n
AreNumbers-get_or low n [] i d numbers inside = absurd (omega arith)
AreNumbers-get_or low n (k ∷ ks) zero d numbers inside = numbers.1
AreNumbers-get_or low n (k ∷ ks) (suc i) d numbers inside = AreNumbers-get_or (k + 1) n ks i d numbers.2 (omega arith)

-- the value of the numbers from one place on: that of the number there, and of those behind it
pub value_of-drop : (items : List Item) (ks : List ℕ) (i : ℕ) → i < length ks → value_of items (drop i ks) ≡ (item_at items (get_or ks i 0)).value + value_of items (drop (i + 1) ks)
value_of-drop items ks i inside = at_drop_more (value_of items) ks i 0 inside
