-- Histories are short, since no seat makes many calls.
use Rattle.std.proofs.Common.{◌≡◌, ◌≢◌, ℕ, zero, suc, ◌+◌, ◌*◌, ◌^◌, ◌<◌, ◌≤◌, List, [], ◌∷◌, length, sym, refl, ap, ◌∙◌, subst, arith, suc-mul, mul-le-mul_right, All}
use Rattle.std.proofs.lemmas.List.Elements.{All-head, All-tail}
use native.Mathlib.Decide.{ℕ_discrete}
use mathlib.Core.Logic.{dite}
use Rattle.pq_model.specs.declared.marks.Mark.{Mark}
use Rattle.pq_model.specs.History.{IsSeat}
use Rattle.pq_model.specs.Passes.{calls_from, calls_of}
use Rattle.pq_model.proofs.Lanes.{calls_from-own, calls_from-other}
use Rattle.pq_seats.specs.declared.views.Limits.{Limits}
use Rattle.pq_seats.specs.Rules.{Table, Rule, Holds}
use Rattle.pq_seats.specs.Laws.{history_limit}

-- f of each number from 1 to n, added up
abbrev sums : (ℕ → ℕ) → ℕ → ℕ
sums f zero = 0
sums f (suc n) = f (suc n) + sums f n

sums_zero : (n : ℕ) → sums (λ m. 0) n ≡ 0
sums_zero zero = refl
sums_zero (suc n) = let r = sums_zero n in omega arith

sums_most : (f : ℕ → ℕ) (c n : ℕ) → ((m : ℕ) → f m ≤ c) → sums f n ≤ n * c
sums_most f c zero most = omega arith
sums_most f c (suc n) most = let a = most (suc n) in let r = sums_most f c n most in omega (arith, suc-mul n c)

-- the same of both, where they agree on these numbers
sums_same : (f g : ℕ → ℕ) (n : ℕ) → ((m : ℕ) → m ≤ n → f m ≡ g m) → sums f n ≡ sums g n
sums_same f g zero e = refl
sums_same f g (suc n) e = let a = e (suc n) (omega arith) in let r = sums_same f g n (λ m high. e m (omega arith)) in omega arith

-- one function is 1 more than the other at one number
sums_more : (f g : ℕ → ℕ) (a n : ℕ) → 1 ≤ a → a ≤ n → f a ≡ 1 + g a → ((m : ℕ) → m ≢ a → f m ≡ g m) → sums f n ≡ 1 + sums g n
sums_more f g a zero low high here others = absurd (omega arith)
sums_more f g a (suc n) low high here others = dite (ℕ_discrete a (suc n))
    (λ e. let r = sums_same f g n (λ m less. others m (λ z. omega arith)) in let h = subst (λ (z : ℕ). f z ≡ 1 + g z) e here in omega arith)
    (λ d. let r = sums_more f g a n low (omega arith) here others in let h = others (suc n) (λ z. d (sym z)) in omega arith)

-- each mark is a call of one seat
by_seat : (at n : ℕ) (xs : List Mark) → All (λ (x : Mark). IsSeat n x.seat) xs → length xs ≡ sums (λ m. length (calls_from m at xs)) n
by_seat at n [] all = sym (sums_zero n)
by_seat at n (y ∷ ys) all =
    let P : Mark → Type 0 = λ x. IsSeat n x.seat in
    let here = All-head P y ys all in
    let r = by_seat (at + 1) n ys (All-tail P y ys all) in
    let s = sums_more (λ m. length (calls_from m at (y ∷ ys))) (λ m. length (calls_from m (at + 1) ys)) y.seat n here.0 here.1
    (ap length (calls_from-own at y ys) ∙ omega arith) (λ m ne. ap length (calls_from-other m at y ys (λ e. ne (sym e)))) in
    omega arith

module _ {O : Type 0} (R : Rule O) (k : Limits) where
  pub few_marks : (s : Table O) (h : Holds R k s) → length h.history ≤ history_limit
  few_marks s h = let few = h.few in let a = by_seat 0 k.seats h.history h.legal.seated in
      let b = sums_most (λ m. length (calls_of m h.history)) 33554431 k.seats (λ m. let f = h.few_calls m in omega arith) in
      let c : k.seats * 33554431 ≤ 16 * 33554431 = mul-le-mul_right 33554431 few in omega arith

  pub short : (s : Table O) (h : Holds R k s) → length h.history < 2 ^ 30
  short s h = let a = few_marks s h in omega arith
