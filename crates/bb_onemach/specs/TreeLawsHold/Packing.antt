-- What one machine works one after another, from one time on and up to another, takes no longer than that.
use Rattle.std.proofs.Common.{◌≡◌, ℕ, zero, suc, ◌+◌, ◌<◌, ◌≤◌, ◌⊎◌, inl, inr, true, List, [], ◌∷◌, refl, sym, ap, ◌∙◌}
use Rattle.std.proofs.Common.{length, get_or, arith}
use Rattle.std.specs.Prelude.{nat_le, not, All, AllPairs, filter, sum_by, Bool}
use Rattle.std.proofs.lemmas.Bool.{cases_Bool, cases_lt, lt-leb, le-leb, false≢true}
use Rattle.std.proofs.lemmas.List.Elements.{All-filter, filter_passes}
use Rattle.std.proofs.lemmas.List.Filters.{length-filter_both, sum_by-filter_both}
use Rattle.std.proofs.lemmas.List.Kept.{AllPairs-filter}
use Rattle.std.proofs.lemmas.List.Sums.{sum_by-cons}
use Rattle.bb_problem.specs.Tree.{total}

pub total-sum_by : {X : Type 0} (f : X → ℕ) (xs : List X) → total f xs ≡ sum_by f xs
total-sum_by f [] = refl
total-sum_by f (x ∷ xs) = omega (arith, total-sum_by f xs, sum_by-cons f x xs)

pub le-from_test : (a b : ℕ) → nat_le a b ≡ true → a ≤ b
le-from_test a b is =
    elim (cases_lt b a) [
      | inl lt ↦ absurd (false≢true (sym (lt-leb a b lt) ∙ is))
      | inr le ↦ le
    ]

lt-from_test : (a b : ℕ) → not (nat_le a b) ≡ true → b < a
lt-from_test a b is =
    elim (cases_Bool (nat_le a b)) [
      | inl holds ↦ absurd (false≢true (sym (ap not holds) ∙ is))
      | inr fails ↦
          elim (cases_lt b a) [
            | inl lt ↦ lt
            | inr le ↦ absurd (false≢true (sym fails ∙ le-leb a b le))
          ]
    ]

-- of two that are worked, one ends before the other starts
abbrev pub Apart : {X : Type 0} → (X → ℕ) → (X → ℕ) → X → X → Type 0
Apart start time x y = (start x + time x ≤ start y) ⊎ (start y + time y ≤ start x)

-- it starts no earlier and ends no later
abbrev pub IsIn : {X : Type 0} → (X → ℕ) → (X → ℕ) → ℕ → ℕ → X → Type 0
IsIn start time low high x = (low ≤ start x) × (start x + time x ≤ high)

pub pairs-rest : {X : Type 0} (R : X → X → Type 0) (x : X) (xs : List X) → AllPairs R (x ∷ xs) → AllPairs R xs
pairs-rest R x xs pairs = λ i j d lt inside. pairs (suc i) (suc j) d (omega (arith, lt)) (omega (arith, inside))

pub pairs-first : {X : Type 0} (R : X → X → Type 0) (x : X) (xs : List X) → AllPairs R (x ∷ xs) → All (R x) xs
pairs-first R x xs pairs = λ k d lt. pairs 0 (suc k) d (omega arith) (omega (arith, lt))

-- those before one of them, and those after it
pack : {X : Type 0} (start time : X → ℕ) (n : ℕ) (xs : List X) (low high : ℕ) → length xs ≤ n → low ≤ high
    → All (IsIn start time low high) xs → AllPairs (Apart start time) xs
    → low + sum_by time xs ≤ high
pack start time n [] low high few le all pairs = omega (arith, le, total-sum_by time [])
pack start time zero (x ∷ xs) low high few le all pairs = absurd (omega (arith, few))
pack {X} start time (suc n) (x ∷ xs) low high few le all pairs =
    let p : X → Bool = λ y. nat_le (start y + time y) (start x) in
    let q : X → Bool = λ y. not (p y) in
    let here : IsIn start time low high x = all 0 x (omega arith) in
    let rest : All (IsIn start time low high) xs = λ k d lt. all (suc k) d (omega (arith, lt)) in
    let apart = pairs-rest (Apart start time) x xs pairs in
    let size = length-filter_both p q (λ _. refl) xs in
    let before : low + sum_by time (filter p xs) ≤ start x =
    pack start time n (filter p xs) low (start x) (omega (arith, size, few)) here.0
    (λ k d lt. (
      (All-filter p (IsIn start time low high) xs rest k d lt).0,
      le-from_test
          (start (get_or (filter p xs) k d) + time (get_or (filter p xs) k d)) (start x) (filter_passes p xs k d lt),
    ))
    (AllPairs-filter (Apart start time) p xs apart) in
    let after : start x + time x + sum_by time (filter q xs) ≤ high =
    pack start time n (filter q xs) (start x + time x) high (omega (arith, size, few)) here.1
    (λ k d lt.
    let y = get_or (filter q xs) k d in
    let late : start x < start y + time y = lt-from_test (start y + time y) (start x) (filter_passes q xs k d lt) in
    let behind : start x + time x ≤ start y =
    elim (All-filter q (Apart start time x) xs (pairs-first (Apart start time) x xs pairs) k d lt) [
      | inl le ↦ le
      | inr le ↦ absurd (omega (arith, le, late))
    ] in
    (behind, (All-filter q (IsIn start time low high) xs rest k d lt).1))
    (AllPairs-filter (Apart start time) q xs apart) in
    omega (arith, before, after, sum_by-cons time x xs, sum_by-filter_both p q (λ _. refl) time xs)

pub packed : {X : Type 0} (start time : X → ℕ) (xs : List X) (low high : ℕ) → low ≤ high
    → All (IsIn start time low high) xs → AllPairs (Apart start time) xs → low + total time xs ≤ high
packed start time xs low high le all pairs =
    omega (arith, total-sum_by time xs, pack start time (length xs) xs low high (omega arith) le all pairs)
