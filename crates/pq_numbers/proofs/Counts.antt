-- How often a number is in a list, and how often it was drawn.
use Rattle.std.proofs.Common.{◌≡◌, ◌≢◌, ℕ, zero, suc, ◌+◌, ◌<◌, ◌≤◌, Bool, true, false, eqb, ltb, cond, List, [], ◌∷◌, ◌++◌, length, refl, ap, arith, eq-eqb, ne_eqb}
use Rattle.std.specs.Prelude.{Contains, count_by, nat_lt, nat_le, ◌&&◌}
use Rattle.std.proofs.lemmas.List.Sums.{sum_by-cons, sum_by_push, sum_by-append}
use mathlib.Core.Logic.{dite}
use native.Mathlib.Decide.{ℕ_discrete, dec_lt}
use Rattle.std.proofs.lemmas.Bool.{lt-ltb, le-ltb, lt-leb, le-leb}
use Rattle.std.specs.Cmp.Derive.{both_true}
use Rattle.pq_numbers.specs.declared.draws.Draw.{Draw}
use Rattle.pq_numbers.specs.Draws.{draw_of, times_of, times_drawn, IsIn}

-- 1 where the numbers are one
abbrev pub one_if : Bool → ℕ
one_if b = cond b 1 0

pub one_if-le : (b : Bool) → one_if b ≤ 1
one_if-le true = omega arith
one_if-le false = omega arith

pub same_one : (a b : ℕ) → a ≡ b → one_if (eqb a b) ≡ 1
same_one a b e = ap one_if (eq-eqb a b e)

pub other_none : (a b : ℕ) → a ≢ b → one_if (eqb a b) ≡ 0
other_none a b e = ap one_if (ne_eqb a b e)

module _ {A : Type 0} (number : A → ℕ) where
  pub times-cons : (x : ℕ) (p : A) (ps : List A) → times_of number x (p ∷ ps) ≡ one_if (eqb (number p) x) + times_of number x ps
  times-cons x p ps = sum_by-cons (λ (q : A). one_if (eqb (number q) x)) p ps

  pub times-push : (x : ℕ) (ps : List A) (p : A) → times_of number x (ps ++ p ∷ []) ≡ times_of number x ps + one_if (eqb (number p) x)
  times-push x ps p = sum_by_push (λ (q : A). one_if (eqb (number q) x)) ps p

  pub times-append : (x : ℕ) (ps qs : List A) → times_of number x (ps ++ qs) ≡ times_of number x ps + times_of number x qs
  times-append x ps qs = sum_by-append (λ (q : A). one_if (eqb (number q) x)) ps qs

  -- what is in the list is there once at least
  pub times-contains : (ps : List A) (p : A) → Contains ps p → 0 < times_of number (number p) ps
  times-contains [] p (i, lt, is) = absurd (omega arith)
  times-contains (q ∷ qs) p (zero, lt, is) = let e = same_one (number q) (number p) (ap number is) in omega (arith, times-cons (number p) q qs)
  times-contains (q ∷ qs) p (suc i, lt, is) = let r = times-contains qs p (i, omega arith, is) in omega (arith, times-cons (number p) q qs)

  -- an entry of the list with this number
  pub record Has (x : ℕ) (ps : List A) : Type 0 where
    pub entry : A
    pub within : Contains ps entry
    pub is : number entry ≡ x

  -- and what is there once at least is in the list
  pub contains-times : (x : ℕ) (ps : List A) → 0 < times_of number x ps → Has x ps
  contains-times x [] h = absurd (omega arith)
  contains-times x (q ∷ qs) h = dite (ℕ_discrete (number q) x)
      (λ e. record { entry = q; within = (0, omega arith, refl); is = e })
      (λ n. let o = other_none (number q) x n in let c = times-cons x q qs in let r = contains-times x qs (omega arith) in
      let there = r.within in record { entry = r.entry; within = (suc there.0, (let within = there.1 in omega arith), there.2); is = r.is })

  pub none-times : (x : ℕ) (ps : List A) → ((p : A) → Contains ps p → number p ≡ x → ⊥) → times_of number x ps ≡ 0
  none-times x ps none = dite (ℕ_discrete (times_of number x ps) 0) (λ e. e) (λ n. let r = contains-times x ps (omega arith) in absurd (none r.entry r.within r.is))

-- the sum of f over the numbers below n
abbrev sum_below : (ℕ → ℕ) → ℕ → ℕ
sum_below f zero = 0
sum_below f (suc n) = f n + sum_below f n

sum_below-le : (f : ℕ → ℕ) (n : ℕ) → ((x : ℕ) → f x ≤ 1) → sum_below f n ≤ n
sum_below-le f zero le = omega arith
sum_below-le f (suc n) le = let a = le n in let r = sum_below-le f n le in omega arith

sum_below-more : (f g h : ℕ → ℕ) (n : ℕ) → ((x : ℕ) → h x ≡ f x + g x) → sum_below h n ≡ sum_below f n + sum_below g n
sum_below-more f g h zero is = refl
sum_below-more f g h (suc n) is = let a = is n in let r = sum_below-more f g h n is in omega arith

sum_below-one : (a n : ℕ) → a < n → 1 ≤ sum_below (λ x. one_if (eqb a x)) n
sum_below-one a zero lt = absurd (omega arith)
sum_below-one a (suc n) lt = dite (ℕ_discrete a n)
    (λ e. let o = same_one a n e in omega arith)
    (λ ne. let r = sum_below-one a n (omega arith) in omega arith)

module _ {A : Type 0} (number : A → ℕ) where
  length-le_below : (ps : List A) (n : ℕ) → ((p : A) → Contains ps p → number p < n) → length ps ≤ sum_below (λ x. times_of number x ps) n
  length-le_below [] n low = omega arith
  length-le_below (p ∷ ps) n low =
      let r = length-le_below ps n (λ q (i, lt, is). low q (suc i, omega arith, is)) in
      let one = sum_below-one (number p) n (low p (0, omega arith, refl)) in
      let s = sum_below-more (λ x. one_if (eqb (number p) x)) (λ x. times_of number x ps) (λ x. times_of number x (p ∷ ps)) n (λ x. times-cons number x p ps) in omega arith

  -- entries with different numbers below n are at most n
  pub length-le_different : (ps : List A) (n : ℕ) → ((x : ℕ) → times_of number x ps ≤ 1) → ((x : ℕ) → n ≤ x → times_of number x ps ≡ 0) → length ps ≤ n
  length-le_different ps n once low = let a = length-le_below ps n (λ p c. let t = times-contains number ps p c in dite (dec_lt (number p) n) (λ h. h) (λ no. let z = low (number p) (omega arith) in absurd (omega arith))) in
      let b = sum_below-le (λ x. times_of number x ps) n once in omega arith

-- 1 where the number is in the draw
abbrev pub in_draw : ℕ → Draw → ℕ
in_draw x d = cond (nat_le d.first x && nat_lt x (d.first + d.count)) 1 0

pub times_drawn-push : (x : ℕ) (ds : List Draw) (d : Draw) → times_drawn x (ds ++ d ∷ []) ≡ times_drawn x ds + in_draw x d
times_drawn-push x ds d = sum_by_push (λ (e : Draw). cond (nat_le e.first x && nat_lt x (e.first + e.count)) 1 0) ds d

pub times_drawn-append : (x : ℕ) (ds es : List Draw) → times_drawn x (ds ++ es) ≡ times_drawn x ds + times_drawn x es
times_drawn-append x ds es = sum_by-append (λ (e : Draw). cond (nat_le e.first x && nat_lt x (e.first + e.count)) 1 0) ds es

-- what a draw adds: the numbers from the first on, so many
pub in_next_draw : (x made count : ℕ) (within : Bool) → one_if (ltb x made) + in_draw x (draw_of made count within) ≡ one_if (ltb x (made + count))
in_next_draw x made count within = dite (dec_lt x made)
    (λ low. let a = ap one_if (lt-ltb x made low) in let b = ap one_if (lt-ltb x (made + count) (omega arith)) in let c : in_draw x (draw_of made count within) ≡ 0 = ap (λ (t : Bool). one_if (t && ltb x (made + count))) (lt-leb made x low) in omega arith)
    (λ high. let a = ap one_if (le-ltb x made (omega arith)) in let c : in_draw x (draw_of made count within) ≡ one_if (ltb x (made + count)) = ap (λ (t : Bool). one_if (t && ltb x (made + count))) (le-leb made x (omega arith)) in omega arith)

pub in_one : (number : ℕ) (d : Draw) → IsIn number d → in_draw number d ≡ 1
in_one number d is = ap one_if (both_true (le-leb d.first number is.0) (lt-ltb number (d.first + d.count) is.1))

-- a number of a draw is drawn once at least
pub times_drawn-contains : (x : ℕ) (ds : List Draw) (d : Draw) → Contains ds d → d.first ≤ x → x < d.first + d.count → 0 < times_drawn x ds
times_drawn-contains x [] d (i, lt, is) from to = absurd (omega arith)
times_drawn-contains x (e ∷ es) d (zero, lt, is) from to =
    let c = sum_by-cons (in_draw x) e es in let one = in_one x d (from, to) in let same : in_draw x e ≡ in_draw x d = ap (in_draw x) is in omega arith
times_drawn-contains x (e ∷ es) d (suc i, lt, is) from to =
    let c = sum_by-cons (in_draw x) e es in let r = times_drawn-contains x es d (i, omega arith, is) from to in omega arith

module _ {A : Type 0} where
  pub none_counted : (p : A → Bool) (xs : List A) → ((x : A) → Contains xs x → p x ≡ false) → count_by p xs ≡ 0
  none_counted p [] none = refl
  none_counted p (x ∷ xs) none =
      let a : one_if (p x) ≡ 0 = ap one_if (none x (0, omega arith, refl)) in let c = sum_by-cons (λ (y : A). one_if (p y)) x xs in
      let r = none_counted p xs (λ y (i, lt, is). none y (suc i, omega arith, is)) in omega arith
