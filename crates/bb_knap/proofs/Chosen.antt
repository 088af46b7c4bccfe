-- The numbers that decisions take, sorted, are a choice.
use Rattle.std.proofs.Common.{◌≡◌, ℕ, zero, suc, ◌+◌, ◌<◌, ◌≤◌, true, false, List, [], ◌∷◌, ◌++◌, inl, inr, refl, sym, ap, ◌∙◌, length, take, get_or, arith}
use Rattle.std.specs.Prelude.{nat_lt}
use Rattle.std.specs.List.Sorted.{IsPermutation, IsSorted, IsNonDecreasingBy}
use Rattle.std.specs.Ordering.{nat_cmp}
use Rattle.std.proofs.lemmas.Bool.{cases_lt, ltb-false}
use Rattle.std.proofs.lemmas.Bool.Decides.{eqb_tells}
use Rattle.std.proofs.lemmas.List.Sorted.{IsNonDecreasingBy-from_sort}
use Rattle.inst_text.specs.Knapsack.{Instance, AreNumbers}
use Rattle.bb_problem.specs.Tree.{total}
use Rattle.bb_knap.specs.Plans.{item_at}
use Rattle.bb_knap.specs.Order.{order_of}
use Rattle.bb_knap.specs.Branching.{taken, taken_of, IsPlanOf}
use Rattle.bb_knap.proofs.Sorting.{in_order, moved-in_order, rising-in_order}
use Rattle.bb_knap.specs.TreeLawsHold.Ordered.{one_at, one_at-self}
use Rattle.bb_knap.specs.TreeLawsHold.InOrder.{sum_below, total-permutation, total-order_below, weight_of-total, value_of-total}
use Rattle.bb_knap.specs.TreeLawsHold.Taken.{total-taken-le}

shift : (i : ℕ) → suc i + 1 ≡ suc (i + 1)
shift i = omega arith

-- one number more that is taken, or not
pub taken-more : (ks ds : List ℕ) (i d : ℕ) → i < length ks → i < length ds → nat_lt 0 (get_or ds i 0) ≡ true → taken (take (i + 1) ks) ds ≡ taken (take i ks) ds ++ get_or ks i d ∷ []
unfolding taken
taken-more [] ds i d inside decided yes_it = absurd (omega arith)
taken-more (k ∷ ks) [] i d inside decided yes_it = absurd (omega arith)
taken-more (k ∷ ks) (zero ∷ ds) zero d inside decided yes_it = absurd (cc)
taken-more (k ∷ ks) (suc e ∷ ds) zero d inside decided yes_it = refl
taken-more (k ∷ ks) (zero ∷ ds) (suc i) d inside decided yes_it =
    ap (λ n. taken (take n (k ∷ ks)) (zero ∷ ds)) (shift i) ∙ taken-more ks ds i d (omega (arith, inside)) (omega (arith, decided)) yes_it
taken-more (k ∷ ks) (suc e ∷ ds) (suc i) d inside decided yes_it =
    ap (λ n. taken (take n (k ∷ ks)) (suc e ∷ ds)) (shift i) ∙ ap (λ xs. k ∷ xs) (taken-more ks ds i d (omega (arith, inside)) (omega (arith, decided)) yes_it)

pub taken-same : (ks ds : List ℕ) (i : ℕ) → i < length ks → i < length ds → nat_lt 0 (get_or ds i 0) ≡ false → taken (take (i + 1) ks) ds ≡ taken (take i ks) ds
unfolding taken
taken-same [] ds i inside decided no_it = absurd (omega arith)
taken-same (k ∷ ks) [] i inside decided no_it = absurd (omega arith)
taken-same (k ∷ ks) (zero ∷ ds) zero inside decided no_it = refl
taken-same (k ∷ ks) (suc e ∷ ds) zero inside decided no_it = absurd (omega (arith, ltb-false 0 (suc e) no_it))
taken-same (k ∷ ks) (zero ∷ ds) (suc i) inside decided no_it =
    ap (λ n. taken (take n (k ∷ ks)) (zero ∷ ds)) (shift i) ∙ taken-same ks ds i (omega (arith, inside)) (omega (arith, decided)) no_it
taken-same (k ∷ ks) (suc e ∷ ds) (suc i) inside decided no_it =
    ap (λ n. taken (take n (k ∷ ks)) (suc e ∷ ds)) (shift i) ∙ ap (λ xs. k ∷ xs) (taken-same ks ds i (omega (arith, inside)) (omega (arith, decided)) no_it)

-- each number is below n once
sum_below-past : (k n : ℕ) → n ≤ k → sum_below (one_at k) n ≡ 0
sum_below-past k zero le = refl
sum_below-past k (suc n) le =
    elim (eqb_tells k n) [
      | inl same ↦ absurd (omega (arith, same.1))
      | inr other ↦ rw (other.0) (omega (arith, sum_below-past k n (omega arith)))
    ]

sum_below-once : (k n : ℕ) → sum_below (one_at k) n ≤ 1
sum_below-once k zero = omega arith
sum_below-once k (suc n) =
    elim (eqb_tells k n) [
      | inl same ↦ rw (same.0) (omega (arith, sum_below-past k n (omega (arith, same.1))))
      | inr other ↦ rw (other.0) (omega (arith, sum_below-once k n))
    ]

one_at-there : (k : ℕ) (xs : List ℕ) (i : ℕ) → i < length xs → get_or xs i 0 ≡ k → 1 ≤ total (one_at k) xs
one_at-there k [] i inside is = absurd (omega arith)
one_at-there k (x ∷ xs) zero inside is = omega (arith, one_at-self k, ap (one_at k) is)
one_at-there k (x ∷ xs) (suc i) inside is = omega (arith, one_at-there k xs i (omega (arith, inside)) is)

below_n : (x n : ℕ) (xs : List ℕ) → (n ≤ x → total (one_at x) (x ∷ xs) ≡ 0) → x < n
below_n x n xs none = elim (cases_lt x n) [ inl lt ↦ lt | inr le ↦ absurd (omega (arith, none le, one_at-self x)) ]

strictly : (x : ℕ) (xs : List ℕ) (i : ℕ) → x ≤ get_or xs i 0 → total (one_at x) (x ∷ xs) ≤ 1 → i < length xs → x + 1 ≤ get_or xs i 0
strictly x xs i le once inside =
    elim (cases_lt x (get_or xs i 0)) [
      | inl lt ↦ omega (arith, lt)
      | inr ge ↦ absurd (omega (arith, one_at-there x xs i inside (omega (arith, le, ge)), one_at-self x, once))
    ]

-- numbers that do not fall, each below n and there once
rise : (low n : ℕ) (xs : List ℕ) → ((i j : ℕ) → i ≤ j → j < length xs → get_or xs i 0 ≤ get_or xs j 0) → ((k : ℕ) → total (one_at k) xs ≤ 1) → ((k : ℕ) → n ≤ k → total (one_at k) xs ≡ 0) → ((i : ℕ) → i < length xs → low ≤ get_or xs i 0) → AreNumbers low n xs
rise low n [] up once inside above = tt
rise low n (x ∷ xs) up once inside above = (
  above 0 (omega arith),
  below_n x n xs (inside x),
  rise (x + 1) n xs (λ i j le lt. up (suc i) (suc j) (omega (arith, le)) (omega (arith, lt)))
      (λ k. omega (arith, once k))
      (λ k le. omega (arith, inside k le))
      (λ i lt. strictly x xs i (up 0 (suc i) (omega arith) (omega (arith, lt))) (once x) lt),
)

-- what decisions take, in another order, measures the same
total-plan : (i : Instance) (ds choice : List ℕ) → IsPermutation (taken_of i ds) choice → (f : ℕ → ℕ) → total f choice ≡ total f (taken_of i ds)
total-plan i ds choice moved f = total-permutation f (taken_of i ds) choice moved

total-plan-le : (i : Instance) (ds choice : List ℕ) → IsPermutation (taken_of i ds) choice → (f : ℕ → ℕ) → total f choice ≤ sum_below f (length i.items)
total-plan-le i ds choice moved f =
    omega (arith, total-plan i ds choice moved f, total-taken-le f (order_of i.items) ds, total-order_below f i.items (length i.items))

-- in order, it is a choice
plan_in_order : (i : Instance) (ds choice : List ℕ) → IsPermutation (taken_of i ds) choice → ((j k : ℕ) → j ≤ k → k < length choice → get_or choice j 0 ≤ get_or choice k 0) → IsPlanOf i ds choice
plan_in_order i ds choice moved up =
    let n = length i.items in
    record {
      chosen = rise 0 n choice up
          (λ k. omega (arith, total-plan-le i ds choice moved (one_at k), sum_below-once k n))
          (λ k le. omega (arith, total-plan-le i ds choice moved (one_at k), sum_below-past k n le))
          (λ j lt. omega arith);
      same = moved;
      weight = weight_of-total i.items choice ∙ total-plan i ds choice moved (λ k. (item_at i.items k).weight) ∙ sym (weight_of-total i.items (taken_of i ds));
      value = value_of-total i.items choice ∙ total-plan i ds choice moved (λ k. (item_at i.items k).value) ∙ sym (value_of-total i.items (taken_of i ds));
    }

pub is_plan : (i : Instance) (ds choice : List ℕ) → IsPermutation (taken_of i ds) choice → IsSorted nat_cmp choice → IsPlanOf i ds choice
is_plan i ds choice moved sorted =
    let up : IsNonDecreasingBy (λ x. x) choice = IsNonDecreasingBy-from_sort (λ x. x) choice sorted in
    plan_in_order i ds choice moved (λ j k le lt. up j k 0 le lt)

-- decisions have a choice of just the items that they take
pub some_plan : (i : Instance) (ds : List ℕ) → (choice : List ℕ) × IsPlanOf i ds choice
some_plan i ds = (in_order (taken_of i ds), plan_in_order i ds (in_order (taken_of i ds)) (moved-in_order (taken_of i ds)) (rising-in_order (taken_of i ds)))

-- numbers below n are below more
pub AreNumbers-more : (low n m : ℕ) (ks : List ℕ) → n ≤ m → AreNumbers low n ks → AreNumbers low m ks
AreNumbers-more low n m [] le numbers = tt
AreNumbers-more low n m (k ∷ ks) le numbers = (numbers.0, omega (arith, numbers.1), AreNumbers-more (k + 1) n m ks le (numbers.2))
