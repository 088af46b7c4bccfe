-- Any numbers, sorted.
use Rattle.std.proofs.Common.{ℕ, zero, suc, ◌<◌, ◌≤◌, cond, List, [], ◌∷◌, inl, inr, length, get_or, arith}
use Rattle.std.specs.Prelude.{nat_le}
use Rattle.std.specs.List.Sorted.{IsPermutation}
use Rattle.std.proofs.lemmas.Bool.Decides.{leb_tells}
use Rattle.std.proofs.lemmas.List.Sorted.{IsPermutation-refl, IsPermutation-cons, IsPermutation-trans, IsPermutation-middle}

-- a number, before the first that is not below it
with_number : ℕ → List ℕ → List ℕ
with_number x [] = x ∷ []
with_number x (y ∷ ys) = cond (nat_le x y) (x ∷ y ∷ ys) (y ∷ with_number x ys)

pub in_order : List ℕ → List ℕ
in_order [] = []
in_order (x ∷ xs) = with_number x (in_order xs)

moved-with : (x : ℕ) (ys : List ℕ) → IsPermutation (x ∷ ys) (with_number x ys)
unfolding with_number
moved-with x [] = IsPermutation-refl (x ∷ [])
moved-with x (y ∷ ys) =
    elim (leb_tells x y) [
      | inl before ↦ rw (before.0) (IsPermutation-refl (x ∷ y ∷ ys))
      | inr behind ↦ rw (behind.0) (IsPermutation-trans (x ∷ y ∷ ys) (y ∷ x ∷ ys) (y ∷ with_number x ys)
          (IsPermutation-middle (x ∷ []) y ys) (IsPermutation-cons y (x ∷ ys) (with_number x ys) (moved-with x ys)))
    ]

pub moved-in_order : (xs : List ℕ) → IsPermutation xs (in_order xs)
unfolding in_order
moved-in_order [] = IsPermutation-refl []
moved-in_order (x ∷ xs) =
    IsPermutation-trans (x ∷ xs) (x ∷ in_order xs) (with_number x (in_order xs))
    (IsPermutation-cons x xs (in_order xs) (moved-in_order xs)) (moved-with x (in_order xs))

-- no number is below this one
AreAbove : ℕ → List ℕ → Type 0
AreAbove low [] = Unit {0}
AreAbove low (x ∷ xs) = (low ≤ x) × AreAbove low xs

-- no number is below one before it
DoNotFall : List ℕ → Type 0
DoNotFall [] = Unit {0}
DoNotFall (x ∷ xs) = AreAbove x xs × DoNotFall xs

AreAbove-lower : (low high : ℕ) (xs : List ℕ) → low ≤ high → AreAbove high xs → AreAbove low xs
unfolding AreAbove
AreAbove-lower low high [] le above = tt
AreAbove-lower low high (x ∷ xs) le above = (omega (arith, above.0), AreAbove-lower low high xs le (above.1))

AreAbove-with : (low x : ℕ) (ys : List ℕ) → low ≤ x → AreAbove low ys → AreAbove low (with_number x ys)
unfolding AreAbove with_number
AreAbove-with low x [] le above = (le, tt)
AreAbove-with low x (y ∷ ys) le above =
    elim (leb_tells x y) [
      | inl before ↦ rw (before.0) (le, (above.0, above.1))
      | inr behind ↦ rw (behind.0) (above.0, AreAbove-with low x ys le (above.1))
    ]

DoNotFall-with : (x : ℕ) (ys : List ℕ) → DoNotFall ys → DoNotFall (with_number x ys)
unfolding AreAbove DoNotFall with_number
DoNotFall-with x [] rising = (tt, tt)
DoNotFall-with x (y ∷ ys) rising =
    elim (leb_tells x y) [
      | inl before ↦ rw (before.0) ((before.1, AreAbove-lower x y ys (before.1) (rising.0)), (rising.0, rising.1))
      | inr behind ↦ rw (behind.0) (AreAbove-with y x ys (omega (arith, behind.1)) (rising.0), DoNotFall-with x ys (rising.1))
    ]

DoNotFall-in_order : (xs : List ℕ) → DoNotFall (in_order xs)
unfolding DoNotFall in_order
DoNotFall-in_order [] = tt
DoNotFall-in_order (x ∷ xs) = DoNotFall-with x (in_order xs) (DoNotFall-in_order xs)

AreAbove-at : (low : ℕ) (xs : List ℕ) (k : ℕ) → AreAbove low xs → k < length xs → low ≤ get_or xs k 0
unfolding AreAbove
AreAbove-at low [] k above inside = absurd (omega arith)
AreAbove-at low (x ∷ xs) zero above inside = above.0
AreAbove-at low (x ∷ xs) (suc k) above inside = AreAbove-at low xs k (above.1) (omega (arith, inside))

DoNotFall-at : (xs : List ℕ) → DoNotFall xs → (j k : ℕ) → j ≤ k → k < length xs → get_or xs j 0 ≤ get_or xs k 0
unfolding DoNotFall
DoNotFall-at [] rising j k le inside = absurd (omega arith)
DoNotFall-at (x ∷ xs) rising zero zero le inside = omega arith
DoNotFall-at (x ∷ xs) rising zero (suc k) le inside = AreAbove-at x xs k (rising.0) (omega (arith, inside))
DoNotFall-at (x ∷ xs) rising (suc j) zero le inside = absurd (omega arith)
DoNotFall-at (x ∷ xs) rising (suc j) (suc k) le inside = DoNotFall-at xs (rising.1) j k (omega (arith, le)) (omega (arith, inside))

pub rising-in_order : (xs : List ℕ) (j k : ℕ) → j ≤ k → k < length (in_order xs) → get_or (in_order xs) j 0 ≤ get_or (in_order xs) k 0
rising-in_order xs = DoNotFall-at (in_order xs) (DoNotFall-in_order xs)
