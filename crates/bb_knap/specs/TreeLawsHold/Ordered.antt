-- Lists of numbers in an order: what insertion keeps, and that two with the same numbers are one.
use Rattle.std.proofs.Common.{◌≡◌, ℕ, suc, ◌<◌, ◌≤◌, Bool, false, cond, List, [], ◌∷◌, inl, inr, refl, ap, length}
use Rattle.std.proofs.Common.{get_or, eqb, arith}
use Rattle.std.proofs.lemmas.Bool.{cases_Bool}
use Rattle.std.proofs.lemmas.Bool.Decides.{eqb_tells}
use Rattle.std.specs.Cmp.{IsStrictWeakOrder}
use Rattle.bb_problem.specs.Tree.{total}

-- none of these stands before x
abbrev pub NoneBefore : (ℕ → ℕ → Bool) → ℕ → List ℕ → Type 0
NoneBefore lt x [] = Unit {0}
NoneBefore lt x (y ∷ ys) = (lt y x ≡ false) × NoneBefore lt x ys

-- none of the later ones stands before an earlier one
abbrev pub IsInOrder : (ℕ → ℕ → Bool) → List ℕ → Type 0
IsInOrder lt [] = Unit {0}
IsInOrder lt (x ∷ xs) = NoneBefore lt x xs × IsInOrder lt xs

pub NoneBefore-chain : (lt : ℕ → ℕ → Bool) → IsStrictWeakOrder lt → (x y : ℕ) (ys : List ℕ) → lt y x ≡ false
    → NoneBefore lt y ys → NoneBefore lt x ys
NoneBefore-chain lt o x y [] h none = tt
NoneBefore-chain lt o x y (z ∷ zs) h none = (o.chain z y x none.0 h, NoneBefore-chain lt o x y zs h none.1)

NoneBefore-at : (lt : ℕ → ℕ → Bool) (x : ℕ) (xs : List ℕ) → ((k d : ℕ) → k < length xs → lt (get_or xs k d) x ≡ false)
    → NoneBefore lt x xs
NoneBefore-at lt x [] each = tt
NoneBefore-at lt x (y ∷ ys) each =
    (each 0 0 (omega arith), NoneBefore-at lt x ys (λ k d h. each (suc k) d (omega (arith, h))))

pub IsInOrder-at : (lt : ℕ → ℕ → Bool) (xs : List ℕ)
    → ((i j d : ℕ) → i ≤ j → j < length xs → lt (get_or xs j d) (get_or xs i d) ≡ false) → IsInOrder lt xs
IsInOrder-at lt [] each = tt
IsInOrder-at lt (x ∷ xs) each = (
  NoneBefore-at lt x xs (λ k d h. each 0 (suc k) d (omega arith) (omega (arith, h))),
  IsInOrder-at lt xs
      (λ i j d le h. each (suc i) (suc j) d (omega (arith, le)) (omega (arith, h))),
)

-- 1 at this number, else 0
abbrev pub one_at : ℕ → ℕ → ℕ
one_at x y = cond (eqb x y) 1 0

pub one_at-self : (x : ℕ) → one_at x x ≡ 1
one_at-self x = elim (eqb_tells x x) [ inl same ↦ rw (same.0) refl | inr other ↦ absurd (other.1 refl) ]

irreflexive : (lt : ℕ → ℕ → Bool) → IsStrictWeakOrder lt → (x : ℕ) → lt x x ≡ false
irreflexive lt o x = elim (cases_Bool (lt x x)) [ inl stands ↦ o.one_way x x stands | inr fails ↦ fails ]

-- a number that is there does not stand before one that none stands before
there : (lt : ℕ → ℕ → Bool) (x y : ℕ) (ys : List ℕ) → NoneBefore lt y ys → 0 < total (one_at x) ys → lt x y ≡ false
there lt x y [] none some = absurd (omega arith)
there lt x y (z ∷ zs) none some =
    elim (eqb_tells x z) [
      | inl same ↦ rw (same.1) (none.0)
      | inr other ↦ there lt x y zs none.1 (let s = rw (other.0) at some in omega (arith, s))
    ]

there_or_first : (lt : ℕ → ℕ → Bool) → IsStrictWeakOrder lt → (x y : ℕ) (ys : List ℕ) → NoneBefore lt y ys
    → 0 < total (one_at x) (y ∷ ys) → lt x y ≡ false
there_or_first lt o x y ys none some =
    elim (eqb_tells x y) [
      | inl same ↦ rw (same.1) (irreflexive lt o y)
      | inr other ↦ there lt x y ys none (let s = rw (other.0) at some in omega (arith, s))
    ]

-- two lists in order with the same numbers are one
pub same_lists : (lt : ℕ → ℕ → Bool) → IsStrictWeakOrder lt → ((x y : ℕ) → lt x y ≡ false → lt y x ≡ false → x ≡ y)
    → (xs ys : List ℕ) → ((f : ℕ → ℕ) → total f xs ≡ total f ys) → IsInOrder lt xs → IsInOrder lt ys → xs ≡ ys
same_lists lt o one [] [] counts xo yo = refl
same_lists lt o one [] (y ∷ ys) counts xo yo = absurd (omega (arith, counts (λ _. 1)))
same_lists lt o one (x ∷ xs) [] counts xo yo = absurd (omega (arith, counts (λ _. 1)))
same_lists lt o one (x ∷ xs) (y ∷ ys) counts xo yo =
    let x_there : lt x y ≡ false = there_or_first lt o x y ys yo.0 (omega (arith, counts (one_at x), one_at-self x)) in
    let y_there : lt y x ≡ false = there_or_first lt o y x xs xo.0 (omega (arith, counts (one_at y), one_at-self y)) in
    let e : x ≡ y = one x y x_there y_there in
    let rest : xs ≡ ys = same_lists lt o one xs ys (λ f. omega (arith, counts f, ap f e)) xo.1 yo.1 in
    cc
