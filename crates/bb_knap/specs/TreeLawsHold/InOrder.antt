-- The order of the items' numbers: each number once, and one before the other by their values for their weight.
use Rattle.std.proofs.Common.{◌≡◌, ℕ, zero, suc, ◌+◌, Bool, true, false, cond, List, [], ◌∷◌, ◌++◌, refl, sym, ap, ◌∙◌}
use Rattle.std.proofs.Common.{length, drop, arith}
use Rattle.std.specs.List.{sum_by}
use Rattle.std.specs.List.Sorted.{IsPermutation}
use Rattle.std.proofs.lemmas.List.Sums.{sum_by-cons}
use Rattle.std.proofs.lemmas.List.Sorted.{sum_by-IsPermutation}
use Rattle.bb_problem.specs.Tree.{total}
use Rattle.inst_text.specs.declared.knapsack.Item.{Item}
use Rattle.bb_knap.specs.Plans.{item_at, weight_of, value_of}
use Rattle.bb_knap.specs.Order.{goes_before, inserted, order_below}
use Rattle.bb_knap.specs.TreeLawsHold.Denser.{is_order, same_place}
use Rattle.bb_knap.specs.TreeLawsHold.Ordered.{NoneBefore, NoneBefore-chain, IsInOrder, same_lists}

-- f of each number below n, added up
abbrev pub sum_below : (ℕ → ℕ) → ℕ → ℕ
sum_below f zero = 0
sum_below f (suc n) = f n + sum_below f n

pub total-append : (f : ℕ → ℕ) (xs ys : List ℕ) → total f (xs ++ ys) ≡ total f xs + total f ys
total-append f [] ys = omega arith
total-append f (x ∷ xs) ys = omega (arith, total-append f xs ys)

pub total-sum_by : (f : ℕ → ℕ) (xs : List ℕ) → total f xs ≡ sum_by f xs
total-sum_by f [] = refl
total-sum_by f (x ∷ xs) = omega (arith, total-sum_by f xs, sum_by-cons f x xs)

pub total-permutation : (f : ℕ → ℕ) (xs ys : List ℕ) → IsPermutation xs ys → total f ys ≡ total f xs
total-permutation f xs ys moved =
    omega (arith, total-sum_by f xs, total-sum_by f ys, sum_by-IsPermutation f xs ys moved)

-- two choices one after the other weigh what they weigh together
pub weight_of-append : (items : List Item) (xs ys : List ℕ)
    → weight_of items (xs ++ ys) ≡ weight_of items xs + weight_of items ys
weight_of-append items [] ys = omega arith
weight_of-append items (x ∷ xs) ys = omega (arith, weight_of-append items xs ys)

-- and are worth what they are worth together
pub value_of-append : (items : List Item) (xs ys : List ℕ)
    → value_of items (xs ++ ys) ≡ value_of items xs + value_of items ys
value_of-append items [] ys = omega arith
value_of-append items (x ∷ xs) ys = omega (arith, value_of-append items xs ys)

-- weight and value as totals
pub weight_of-total : (items : List Item) (ks : List ℕ) → weight_of items ks ≡ total (λ k. (item_at items k).weight) ks
weight_of-total items [] = refl
weight_of-total items (k ∷ ks) = ap (λ n. (item_at items k).weight + n) (weight_of-total items ks)

pub value_of-total : (items : List Item) (ks : List ℕ) → value_of items ks ≡ total (λ k. (item_at items k).value) ks
value_of-total items [] = refl
value_of-total items (k ∷ ks) = ap (λ n. (item_at items k).value + n) (value_of-total items ks)

-- insertion adds one number
total-inserted_at : (f : ℕ → ℕ) (items : List Item) (k j : ℕ) (js : List ℕ) (rest : List ℕ)
    → total f rest ≡ f k + total f js → (b : Bool) → total f (cond b (k ∷ j ∷ js) (j ∷ rest)) ≡ f k + (f j + total f js)
total-inserted_at f items k j js rest e true = refl
total-inserted_at f items k j js rest e false = omega (arith, e)

total-inserted : (f : ℕ → ℕ) (items : List Item) (k : ℕ) (js : List ℕ)
    → total f (inserted items k js) ≡ f k + total f js
unfolding inserted
total-inserted f items k [] = refl
total-inserted f items k (j ∷ js) =
    total-inserted_at f items k j js (inserted items k js) (total-inserted f items k js) (goes_before items k j)

-- the order has each number once
pub total-order_below : (f : ℕ → ℕ) (items : List Item) (n : ℕ) → total f (order_below items n) ≡ sum_below f n
unfolding order_below
total-order_below f items zero = refl
total-order_below f items (suc n) =
    omega (arith, total-inserted f items n (order_below items n), total-order_below f items n)

NoneBefore-inserted_at : (items : List Item) (x k j : ℕ) (js rest : List ℕ) → goes_before items k x ≡ false
    → goes_before items j x ≡ false → NoneBefore (goes_before items) x js → NoneBefore (goes_before items) x rest
    → (b : Bool) → NoneBefore (goes_before items) x (cond b (k ∷ j ∷ js) (j ∷ rest))
NoneBefore-inserted_at items x k j js rest h first none later true = (h, (first, none))
NoneBefore-inserted_at items x k j js rest h first none later false = (first, later)

NoneBefore-inserted : (items : List Item) (x k : ℕ) (js : List ℕ) → goes_before items k x ≡ false
    → NoneBefore (goes_before items) x js → NoneBefore (goes_before items) x (inserted items k js)
unfolding inserted
NoneBefore-inserted items x k [] h none = (h, tt)
NoneBefore-inserted items x k (j ∷ js) h none =
    NoneBefore-inserted_at items x k j js (inserted items k js) h (none.0) (none.1)
    (NoneBefore-inserted items x k js h (none.1)) (goes_before items k j)

IsInOrder-inserted_at : (items : List Item) (k j : ℕ) (js : List ℕ) (rest : List ℕ)
    → NoneBefore (goes_before items) j js → IsInOrder (goes_before items) js
    → (goes_before items k j ≡ false → NoneBefore (goes_before items) j rest) → IsInOrder (goes_before items) rest
    → (b : Bool) → goes_before items k j ≡ b → IsInOrder (goes_before items) (cond b (k ∷ j ∷ js) (j ∷ rest))
IsInOrder-inserted_at items k j js rest none in_order later rest_order true h =
    let not_before : goes_before items j k ≡ false = (is_order items).one_way k j h in
    ((not_before, NoneBefore-chain (goes_before items) (is_order items) k j js not_before none), (none, in_order))
IsInOrder-inserted_at items k j js rest none in_order later rest_order false h = (later h, rest_order)

IsInOrder-inserted : (items : List Item) (k : ℕ) (js : List ℕ) → IsInOrder (goes_before items) js
    → IsInOrder (goes_before items) (inserted items k js)
unfolding inserted
IsInOrder-inserted items k [] in_order = (tt, tt)
IsInOrder-inserted items k (j ∷ js) in_order =
    IsInOrder-inserted_at items k j js (inserted items k js) (in_order.0) (in_order.1)
    (λ h. NoneBefore-inserted items j k js h (in_order.0)) (IsInOrder-inserted items k js (in_order.1))
    (goes_before items k j) refl

pub IsInOrder-order_below : (items : List Item) (n : ℕ) → IsInOrder (goes_before items) (order_below items n)
unfolding order_below
IsInOrder-order_below items zero = tt
IsInOrder-order_below items (suc n) = IsInOrder-inserted items n (order_below items n) (IsInOrder-order_below items n)

-- a list in order that has each number below n once is the order
pub is_order_below : (items : List Item) (n : ℕ) (numbers sorted : List ℕ)
    → ((f : ℕ → ℕ) → total f numbers ≡ sum_below f n) → IsPermutation numbers sorted
    → IsInOrder (goes_before items) sorted → sorted ≡ order_below items n
is_order_below items n numbers sorted counts moved in_order =
    same_lists (goes_before items) (is_order items) (same_place items) sorted (order_below items n)
    (λ f. total-permutation f numbers sorted moved ∙ counts f ∙ sym (total-order_below f items n))
    in_order (IsInOrder-order_below items n)

total-one : (xs : List ℕ) → total (λ _. 1) xs ≡ length xs
total-one [] = refl
total-one (x ∷ xs) = omega (arith, total-one xs)

sum_below-one : (n : ℕ) → sum_below (λ _. 1) n ≡ n
sum_below-one zero = refl
sum_below-one (suc n) = omega (arith, sum_below-one n)

pub length-order_below : (items : List Item) (n : ℕ) → length (order_below items n) ≡ n
length-order_below items n =
    sym (total-one (order_below items n)) ∙ total-order_below (λ _. 1) items n ∙ sum_below-one n

-- the rest of a list in order is in order
pub IsInOrder-drop : (lt : ℕ → ℕ → Bool) (k : ℕ) (xs : List ℕ) → IsInOrder lt xs → IsInOrder lt (drop k xs)
IsInOrder-drop lt zero xs in_order = in_order
IsInOrder-drop lt (suc k) [] in_order = tt
IsInOrder-drop lt (suc k) (x ∷ xs) in_order = IsInOrder-drop lt k xs (in_order.1)
