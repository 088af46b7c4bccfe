-- Sums over the views of a table, and what holds of each view after one has changed.
use Rattle.std.proofs.Common.{◌≡◌, ◌≢◌, ℕ, zero, suc, ◌+◌, ◌<◌, ◌≤◌, List, [], ◌∷◌, ◌++◌, set, sym, refl, ap, ◌∙◌, subst, ⊎_elim, arith}
use Rattle.std.specs.Prelude.{sum_by}
use Rattle.std.proofs.lemmas.List.Sums.{sum_by-cons, sum_by_push}
use mathlib.Core.Option.{some, some-injective, some-ne-none}
use mathlib.Core.Logic.{dite}
use native.Mathlib.Decide.{ℕ_discrete}
use lib.ListN.{get_elem?}
use Rattle.atomic_table.proofs.Lists.{at_set, at_snoc, set_else}

module _ {A : Type 0} where
  pub sum_set : (f : A → ℕ) (l : List A) (i : ℕ) (v w : A) → get_elem? l i ≡ some v → sum_by f (set l i w) + f v ≡ sum_by f l + f w
  sum_set f [] i v w e = absurd (some-ne-none v (sym e))
  sum_set f (x ∷ xs) zero v w e = let is : f x ≡ f v = ap f (some-injective x v e) in omega (arith, sum_by-cons f x xs, sum_by-cons f w xs)
  sum_set f (x ∷ xs) (suc i) v w e = let r = sum_set f xs i v w e in omega (arith, sum_by-cons f x xs, sum_by-cons f x (set xs i w))

  pub sum_kept : (f : A → ℕ) (l : List A) (i : ℕ) (v w : A) → get_elem? l i ≡ some v → f w ≡ f v → sum_by f (set l i w) ≡ sum_by f l
  sum_kept f l i v w e same = let r = sum_set f l i v w e in omega arith

  pub one-le-sum : (f : A → ℕ) (l : List A) (i : ℕ) (v : A) → get_elem? l i ≡ some v → f v ≤ sum_by f l
  one-le-sum f [] i v e = absurd (some-ne-none v (sym e))
  one-le-sum f (x ∷ xs) zero v e = let is : f x ≡ f v = ap f (some-injective x v e) in omega (arith, sum_by-cons f x xs)
  one-le-sum f (x ∷ xs) (suc i) v e = let r = one-le-sum f xs i v e in omega (arith, sum_by-cons f x xs)

  pub sum-le : (f g : A → ℕ) (l : List A) → ((i : ℕ) (v : A) → get_elem? l i ≡ some v → f v ≤ g v) → sum_by f l ≤ sum_by g l
  sum-le f g [] below = omega arith
  sum-le f g (x ∷ xs) below = let a = below 0 x refl in let r = sum-le f g xs (λ i. below (suc i)) in omega (arith, sum_by-cons f x xs, sum_by-cons g x xs)

  -- where one function is below another at each view, the difference at one view is at most that of the sums
  pub sum-le_at : (f g : A → ℕ) (l : List A) (i : ℕ) (v : A) → get_elem? l i ≡ some v → ((j : ℕ) (u : A) → get_elem? l j ≡ some u → f u ≤ g u) → sum_by f l + g v ≤ sum_by g l + f v
  sum-le_at f g [] i v e below = absurd (some-ne-none v (sym e))
  sum-le_at f g (x ∷ xs) zero v e below = let is : f x ≡ f v = ap f (some-injective x v e) in let is' : g x ≡ g v = ap g (some-injective x v e) in
      let r = sum-le f g xs (λ j. below (suc j)) in omega (arith, sum_by-cons f x xs, sum_by-cons g x xs)
  sum-le_at f g (x ∷ xs) (suc i) v e below = let a = below 0 x refl in let r = sum-le_at f g xs i v e (λ j. below (suc j)) in omega (arith, sum_by-cons f x xs, sum_by-cons g x xs)

  pub sum_none : (f : A → ℕ) (l : List A) → ((i : ℕ) (v : A) → get_elem? l i ≡ some v → f v ≡ 0) → sum_by f l ≡ 0
  sum_none f [] none = refl
  sum_none f (x ∷ xs) none = let a = none 0 x refl in let r = sum_none f xs (λ i. none (suc i)) in omega (arith, sum_by-cons f x xs)

  -- A view that has all of g is the only one with any; so it has all of each f that is nothing where g is nothing
  pub sum_alone : (f g : A → ℕ) (l : List A) (i : ℕ) (v : A) → get_elem? l i ≡ some v → g v ≡ sum_by g l → ((j : ℕ) (u : A) → get_elem? l j ≡ some u → g u ≡ 0 → f u ≡ 0) → sum_by f l ≡ f v
  sum_alone f g [] i v e all idle = absurd (some-ne-none v (sym e))
  sum_alone f g (x ∷ xs) zero v e all idle = let is : f x ≡ f v = ap f (some-injective x v e) in let is' : g x ≡ g v = ap g (some-injective x v e) in let c = sum_by-cons g x xs in
      let r = sum_none f xs (λ j u at. idle (suc j) u at (let o = one-le-sum g xs j u at in omega arith)) in omega (arith, sum_by-cons f x xs)
  sum_alone f g (x ∷ xs) (suc i) v e all idle = let c = sum_by-cons g x xs in let o = one-le-sum g xs i v e in
      let a = idle 0 x refl (omega arith) in let r = sum_alone f g xs i v e (omega arith) (λ j. idle (suc j)) in omega (arith, sum_by-cons f x xs)

  pub some_in_sum : (f : A → ℕ) (l : List A) → 0 < sum_by f l → (i : ℕ) × (v : A) × (get_elem? l i ≡ some v) × (0 < f v)
  some_in_sum f [] more = absurd (omega arith)
  some_in_sum f (x ∷ xs) more = dite (ℕ_discrete (f x) 0)
      (λ e. let c = sum_by-cons f x xs in let r = some_in_sum f xs (omega arith) in (suc r.0, r.1, r.2, r.3))
      (λ n. (0, x, refl, omega arith))

  -- the view that was changed
  pub here : (l : List A) (i : ℕ) (v w : A) → get_elem? l i ≡ some v → get_elem? (set l i w) i ≡ some w
  here [] i v w e = absurd (some-ne-none v (sym e))
  here (x ∷ xs) zero v w e = refl
  here (x ∷ xs) (suc i) v w e = here xs i v w e

  pub one_at : (l : List A) (i : ℕ) (v w : A) → get_elem? l i ≡ some v → get_elem? l i ≡ some w → v ≡ w
  one_at l i v w a b = some-injective v w (sym a ∙ b)

  -- what holds of the changed view, and of the others before, holds of each after
  pub each_set : (P : A → Type 0) (l : List A) (i : ℕ) (w : A) → P w → ((j : ℕ) (u : A) → get_elem? l j ≡ some u → P u) → (j : ℕ) (u : A) → get_elem? (set l i w) j ≡ some u → P u
  each_set P l i w new old j u at = ⊎_elim (λ t. subst P t.1 new) (λ t. old j u t.1) (at_set l i j w u at)

  pub two-le-sum : (f : A → ℕ) (l : List A) (i j : ℕ) (v w : A) → get_elem? l i ≡ some v → get_elem? l j ≡ some w → j ≢ i → f v + f w ≤ sum_by f l
  two-le-sum f [] i j v w e d n = absurd (some-ne-none v (sym e))
  two-le-sum f (x ∷ xs) zero zero v w e d n = absurd (n refl)
  two-le-sum f (x ∷ xs) zero (suc j) v w e d n = let is : f x ≡ f v = ap f (some-injective x v e) in let r = one-le-sum f xs j w d in omega (arith, sum_by-cons f x xs)
  two-le-sum f (x ∷ xs) (suc i) zero v w e d n = let is : f x ≡ f w = ap f (some-injective x w d) in let r = one-le-sum f xs i v e in omega (arith, sum_by-cons f x xs)
  two-le-sum f (x ∷ xs) (suc i) (suc j) v w e d n = let r = two-le-sum f xs i j v w e d (λ q. n (ap suc q)) in omega (arith, sum_by-cons f x xs)

  -- the one view of a table that opens
  pub one_view : (v : A) (j : ℕ) (u : A) → get_elem? (v ∷ []) j ≡ some u → v ≡ u
  one_view v zero u e = some-injective v u e
  one_view v (suc j) u e = absurd (some-ne-none u (sym e))

  -- a view was cut in two
  pub sum_split : (f : A → ℕ) (l : List A) (i : ℕ) (v left right : A) → get_elem? l i ≡ some v → f left + f right ≡ f v → sum_by f (set l i left ++ right ∷ []) ≡ sum_by f l
  sum_split f l i v left right e is = let a = sum_set f l i v left e in let b = sum_by_push f (set l i left) right in omega arith

  pub each_split : (P : A → Type 0) (l : List A) (i : ℕ) (left right : A) → P left → P right → ((j : ℕ) (u : A) → get_elem? l j ≡ some u → P u) → (j : ℕ) (u : A) → get_elem? (set l i left ++ right ∷ []) j ≡ some u → P u
  each_split P l i left right at_left at_right old j u at = ⊎_elim (λ t. each_set P l i left at_left old j u t) (λ t. subst P t at_right) (at_snoc (set l i left) right u j at)

  -- the view that a seat takes in was there before
  pub at_before : (l : List A) (i j : ℕ) (both w : A) → j ≢ i → get_elem? (set l i both) j ≡ some w → get_elem? l j ≡ some w
  at_before l i j both w apart to = sym (set_else l i j both apart) ∙ to

  -- a view took in another, which is spent
  pub sum_joined : (f : A → ℕ) (l : List A) (i j : ℕ) (v w both spent : A) → get_elem? l i ≡ some v → get_elem? (set l i both) j ≡ some w → f both ≡ f v + f w → f spent ≡ 0 → sum_by f (set (set l i both) j spent) ≡ sum_by f l
  sum_joined f l i j v w both spent at to is none = let a = sum_set f l i v both at in let b = sum_set f (set l i both) j w spent to in omega arith

  pub each_joined : (P : A → Type 0) (l : List A) (i j : ℕ) (both spent : A) → P both → P spent → ((h : ℕ) (u : A) → get_elem? l h ≡ some u → P u) → (h : ℕ) (u : A) → get_elem? (set (set l i both) j spent) h ≡ some u → P u
  each_joined P l i j both spent at_both at_spent old = each_set P (set l i both) j spent at_spent (each_set P l i both at_both old)
