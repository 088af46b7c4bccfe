-- Sums over lists, elements of lists, and lanes.
use Rattle.std.proofs.Common.{◌≡◌, ◌≢◌, ◌⊎◌, ℕ, zero, suc, ◌+◌, ◌<◌, ◌≤◌, Bool, true, false, cond, eqb, List, [], ◌∷◌, ◌++◌, map, length, get_or, set, sym, refl, ap, ◌∙◌, subst, inl, inr, ⊎_elim, arith, eq-eqb, ne_eqb, Contains, All, sum_by}
use Rattle.std.specs.Prelude.{slice_index}
use Rattle.std.proofs.lemmas.Bool.Decides.{eqb_tells}
use Rattle.std.proofs.lemmas.List.Sums.{sum_by-cons, sum_by-set, get_or-le-sum_by}
use Rattle.std.proofs.lemmas.List.Elements.{All-weaker, All-contains_itself}
use mathlib.Core.Option.{some, some-injective, some-ne-none}
use lib.ListN.{get_elem?}
use native.Mathlib.Decide.{ℕ_discrete}
use mathlib.Core.Logic.{dite}
use Rattle.pq_model.specs.declared.passes.Call.{Call}
use Rattle.pq_model.specs.declared.passes.Lane.{Lane}
use Rattle.pq_model.specs.Passes.{lane}
use Rattle.pq_seats.specs.Views.{HasFirst, first_calls, later_lanes, add_call, numbered, lanes_of}
use Rattle.pq_seats.specs.Posts.{less}

-- a choice by whether two numbers are the same
pub test_same : (a b x y : ℕ) → a ≡ b → cond (eqb a b) x y ≡ x
test_same a b x y e = ap (λ (t : Bool). cond t x y) (eq-eqb a b e)

pub test_other : (a b x y : ℕ) → a ≢ b → cond (eqb a b) x y ≡ y
test_other a b x y ne = ap (λ (t : Bool). cond t x y) (ne_eqb a b ne)

-- the number that stands there
pub read_at : (l : List ℕ) (i x : ℕ) → get_elem? l i ≡ some x → slice_index l i ≡ x
read_at [] i x at = absurd (some-ne-none x (sym at))
read_at (y ∷ l) zero x at = some-injective y x at
read_at (y ∷ l) (suc i) x at = read_at l i x at

-- where all are 0, they are with one 0 more
pub zero_more : (l : List ℕ) → ((i : ℕ) → get_or l i 0 ≡ 0) → (i : ℕ) → get_or (l ++ 0 ∷ []) i 0 ≡ 0
zero_more [] all zero = refl
zero_more [] all (suc i) = refl
zero_more (x ∷ xs) all zero = all 0
zero_more (x ∷ xs) all (suc i) = zero_more xs (λ j. all (suc j)) i

module _ {A : Type 0} where
  pub within_at : (l : List A) (i : ℕ) (v : A) → get_elem? l i ≡ some v → (i < length l) × (get_or l i v ≡ v)
  within_at [] i v e = absurd (some-ne-none v (sym e))
  within_at (x ∷ xs) zero v e = (omega arith, some-injective x v e)
  within_at (x ∷ xs) (suc i) v e = let r = within_at xs i v e in let lt = r.0 in (omega arith, r.1)

  pub put_here : (l : List A) (i : ℕ) (v w : A) → get_elem? l i ≡ some v → get_elem? (set l i w) i ≡ some w
  put_here [] i v w e = absurd (some-ne-none v (sym e))
  put_here (x ∷ xs) zero v w e = refl
  put_here (x ∷ xs) (suc i) v w e = put_here xs i v w e

  pub same_at : (l : List A) (i : ℕ) (v w : A) → get_elem? l i ≡ some v → get_elem? l i ≡ some w → v ≡ w
  same_at l i v w a b = some-injective v w (sym a ∙ b)

  pub at_unmap : {B : Type 0} (f : A → B) (l : List A) (i : ℕ) (b : B) → get_elem? (map f l) i ≡ some b → (a : A) × (get_elem? l i ≡ some a) × (f a ≡ b)
  at_unmap f [] i b e = absurd (some-ne-none b (sym e))
  at_unmap f (x ∷ xs) zero b e = (x, refl, some-injective (f x) b e)
  at_unmap f (x ∷ xs) (suc i) b e = at_unmap f xs i b e

  pub sum_set : (f : A → ℕ) (l : List A) (i : ℕ) (v w : A) → get_elem? l i ≡ some v → sum_by f (set l i w) + f v ≡ sum_by f l + f w
  sum_set f l i v w e = let r = within_at l i v e in
      subst (λ (z : A). sum_by f (set l i w) + f z ≡ sum_by f l + f w) r.1 (sum_by-set f l i w v r.0)

  pub sum_kept : (f : A → ℕ) (l : List A) (i : ℕ) (v w : A) → get_elem? l i ≡ some v → f w ≡ f v → sum_by f (set l i w) ≡ sum_by f l
  sum_kept f l i v w e same = let r = sum_set f l i v w e in omega arith

  pub sum_one : (f : A → ℕ) (l : List A) (i : ℕ) (v : A) → get_elem? l i ≡ some v → f v ≤ sum_by f l
  sum_one f l i v e = let r = within_at l i v e in subst (λ (z : A). f z ≤ sum_by f l) r.1 (get_or-le-sum_by f l i v r.0)

  pub sum_two : (f : A → ℕ) (l : List A) (i j : ℕ) (v w : A) → get_elem? l i ≡ some v → get_elem? l j ≡ some w → j ≢ i → f v + f w ≤ sum_by f l
  sum_two f [] i j v w e d n = absurd (some-ne-none v (sym e))
  sum_two f (x ∷ xs) zero zero v w e d n = absurd (n refl)
  sum_two f (x ∷ xs) zero (suc j) v w e d n = let is : f x ≡ f v = ap f (some-injective x v e) in let r = sum_one f xs j w d in let c = sum_by-cons f x xs in omega arith
  sum_two f (x ∷ xs) (suc i) zero v w e d n = let is : f x ≡ f w = ap f (some-injective x w d) in let r = sum_one f xs i v e in let c = sum_by-cons f x xs in omega arith
  sum_two f (x ∷ xs) (suc i) (suc j) v w e d n = let r = sum_two f xs i j v w e d (λ q. n (ap suc q)) in let c = sum_by-cons f x xs in omega arith

  pub sum_some : (f : A → ℕ) (l : List A) → 0 < sum_by f l → (i : ℕ) × (v : A) × (get_elem? l i ≡ some v) × (0 < f v)
  sum_some f [] h = absurd (omega arith)
  sum_some f (x ∷ xs) h = let c = sum_by-cons f x xs in dite (ℕ_discrete (f x) 0)
      (λ e. let r = sum_some f xs (omega arith) in (suc r.0, r.1, r.2, r.3))
      (λ n. (0, x, refl, omega arith))

  pub not_in : (x : A) → ¬ Contains [] x
  not_in x (i, lt, e) = absurd (omega arith)

  pub in_first : (x : A) (xs : List A) → Contains (x ∷ xs) x
  in_first x xs = (0, omega arith, refl)

  pub in_later : (x y : A) (xs : List A) → Contains xs y → Contains (x ∷ xs) y
  in_later x y xs h = (suc h.0, (let lt = h.1 in omega arith), h.2)

  -- the first, or one of the others
  pub in_cases : (x y : A) (xs : List A) → Contains (x ∷ xs) y → (x ≡ y) ⊎ Contains xs y
  in_cases x y xs (zero, lt, e) = inl e
  in_cases x y xs (suc i, lt, e) = inr (i, omega arith, e)

  pub all_in : (P : A → Type 0) (xs : List A) → ((x : A) → Contains xs x → P x) → All P xs
  all_in P xs each = All-weaker (Contains xs) P each xs (All-contains_itself xs)

less_if : (b : Bool) (x : ℕ) (rest : List ℕ) (i : ℕ) → Contains (cond b rest (x ∷ rest)) i → ((b ≡ false) × (x ≡ i)) ⊎ Contains rest i
less_if true x rest i h = inr h
less_if false x rest i h = ⊎_elim (λ e. inl (refl, e)) (λ t. inr t) (in_cases x i rest h)

more_if : (b : Bool) (x : ℕ) (rest : List ℕ) (i : ℕ) → Contains rest i → Contains (cond b rest (x ∷ rest)) i
more_if true x rest i h = h
more_if false x rest i h = in_later x i rest h

first_if : (b : Bool) (x : ℕ) (rest : List ℕ) → b ≡ false → Contains (cond b rest (x ∷ rest)) x
first_if true x rest e = absurd (cc)
first_if false x rest e = in_first x rest

pub less_has : (n : ℕ) (l : List ℕ) (i : ℕ) → Contains (less n l) i → Contains l i × (i ≢ n)
less_has n [] i h = absurd (not_in i h)
less_has n (x ∷ xs) i h = ⊎_elim
    (λ t. (subst (λ (z : ℕ). Contains (x ∷ xs) z) t.1 (in_first x xs), λ e. let z = eq-eqb x n (t.1 ∙ e) in let z' = t.0 in absurd (cc)))
    (λ t. let r = less_has n xs i t in (in_later x i xs r.0, r.1))
    (less_if (eqb x n) x (less n xs) i h)

pub has_less : (n : ℕ) (l : List ℕ) (i : ℕ) → Contains l i → i ≢ n → Contains (less n l) i
has_less n [] i h d = absurd (not_in i h)
has_less n (x ∷ xs) i h d = ⊎_elim
    (λ is. subst (λ (z : ℕ). Contains (cond (eqb x n) (less n xs) (x ∷ less n xs)) z) is (first_if (eqb x n) x (less n xs) (ne_eqb x n (λ z. d (sym is ∙ z)))))
    (λ t. more_if (eqb x n) x (less n xs) i (has_less n xs i t d))
    (in_cases x i xs h)

-- Lanes
pub lanes_of-cons : (n : ℕ) (l : Lane) (ls : List Lane) → lanes_of n (l ∷ ls) ≡ cond (eqb l.number n) 1 0 + lanes_of n ls
lanes_of-cons n l ls = sum_by-cons (λ (x : Lane). cond (eqb x.number n) 1 0) l ls

pub first_in : (n : ℕ) (ls : List Lane) (f : HasFirst n ls) → Contains ls (lane n f.0)
first_in n ls f = subst (λ (z : List Lane). Contains z (lane n f.0)) (sym f.2) (in_first (lane n f.0) f.1)

pub lanes_known : (n : ℕ) (ls : List Lane) → HasFirst n ls → lane n (first_calls ls) ∷ later_lanes ls ≡ ls
lanes_known n ls f = subst (λ (z : List Lane). lane n (first_calls z) ∷ later_lanes z ≡ z) (sym f.2) refl

pub lanes_of_has : (l : List Lane) (x : Lane) → Contains l x → 0 < lanes_of x.number l
lanes_of_has [] x h = absurd (not_in x h)
lanes_of_has (y ∷ ys) x h = let c = lanes_of-cons x.number y ys in ⊎_elim
    (λ e. let is = test_same y.number x.number 1 0 (ap (λ (z : Lane). z.number) e) in omega arith)
    (λ t. let r = lanes_of_has ys x t in omega arith)
    (in_cases y x ys h)

before_numbered : (n at m : ℕ) → n < at → lanes_of n (numbered at m) ≡ 0
before_numbered n at zero h = refl
before_numbered n at (suc m) h = let c = lanes_of-cons n (lane at []) (numbered (at + 1) m) in let r = before_numbered n (at + 1) m (omega arith) in let is = test_other at n 1 0 (λ e. omega arith) in omega arith

pub numbered_once : (n at m : ℕ) → lanes_of n (numbered at m) ≤ 1
numbered_once n at zero = omega arith
numbered_once n at (suc m) = let c = lanes_of-cons n (lane at []) (numbered (at + 1) m) in ⊎_elim
    (λ t. let e = t.1 in let r = before_numbered n (at + 1) m (omega arith) in let is = test_same at n 1 0 t.1 in omega arith)
    (λ t. let r = numbered_once n (at + 1) m in let is = test_other at n 1 0 t.1 in omega arith)
    (eqb_tells at n)

pub numbered_in : (n at m : ℕ) → at ≤ n → n < at + m → 0 < lanes_of n (numbered at m)
numbered_in n at zero low high = absurd (omega arith)
numbered_in n at (suc m) low high = let c = lanes_of-cons n (lane at []) (numbered (at + 1) m) in ⊎_elim
    (λ t. let a = test_same at n 1 0 t.1 in omega arith)
    (λ t. let ne = t.1 in let r = numbered_in n (at + 1) m (omega arith) (omega arith) in omega arith)
    (eqb_tells at n)

pub lane_of : (n : ℕ) (l : List Lane) → 0 < lanes_of n l → (x : Lane) × Contains l x × (x.number ≡ n)
lane_of n [] h = absurd (omega arith)
lane_of n (x ∷ xs) h = let c = lanes_of-cons n x xs in ⊎_elim
    (λ t. (x, in_first x xs, t.1))
    (λ t. let a = test_other x.number n 1 0 t.1 in let r = lane_of n xs (omega arith) in (r.0, in_later x r.0 xs r.1, r.2))
    (eqb_tells x.number n)

pub has_length : {A : Type 0} (x : A) (l : List A) → Contains l x → 0 < length l
has_length x l h = let lt = h.1 in omega arith

-- one call more in the first lane
pub lanes_of-add_call : (n : ℕ) (l : List Lane) (c : Call) → lanes_of n (add_call l c) ≡ lanes_of n l
lanes_of-add_call n [] c = refl
lanes_of-add_call n (x ∷ xs) c = lanes_of-cons n (lane x.number (x.calls ++ c ∷ [])) xs ∙ sym (lanes_of-cons n x xs)

pub length-add_call : (l : List Lane) (c : Call) → length (add_call l c) ≡ length l
length-add_call [] c = refl
length-add_call (x ∷ xs) c = refl

pub first-add_call : (n : ℕ) (l : List Lane) (c : Call) → HasFirst n l → HasFirst n (add_call l c)
first-add_call n l c f = (f.0 ++ c ∷ [], f.1, ap (λ (z : List Lane). add_call z c) f.2)

pub calls-add_call : (n : ℕ) (l : List Lane) (c : Call) → HasFirst n l → first_calls (add_call l c) ≡ first_calls l ++ c ∷ []
calls-add_call n l c f = subst (λ (z : List Lane). first_calls (add_call z c) ≡ first_calls z ++ c ∷ []) (sym f.2) refl

pub later-add_call : (l : List Lane) (c : Call) → later_lanes (add_call l c) ≡ later_lanes l
later-add_call [] c = refl
later-add_call (x ∷ xs) c = refl

-- a later lane has another number than the first
pub later_other : (x y : Lane) (rest : List Lane) → lanes_of x.number (x ∷ rest) ≤ 1 → Contains rest y → y.number ≢ x.number
later_other x y rest most has e = let c = lanes_of-cons x.number x rest in let a = test_same x.number x.number 1 0 refl in
    let b : 0 < lanes_of x.number rest = subst (λ (z : ℕ). 0 < lanes_of z rest) e (lanes_of_has rest y has) in absurd (omega arith)
