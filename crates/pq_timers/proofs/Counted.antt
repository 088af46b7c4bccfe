-- How often numbers are among tickets and states, and where the words of a timer stand.
use Rattle.std.proofs.Common.{◌≡◌, ◌≢◌, ℕ, zero, suc, ◌+◌, ◌*◌, ◌<◌, ◌≤◌, eqb, List, [], ◌∷◌, ◌++◌, length, map, refl, ap, arith, true}
use Rattle.std.specs.Prelude.{sum_by}
use Rattle.std.proofs.lemmas.Bool.{lt-ltb, le-ltb}
use Rattle.std.proofs.lemmas.List.Sums.{sum_by-cons}
use mathlib.Core.Logic.{dite}
use native.Mathlib.Decide.{ℕ_discrete, dec_lt}
use Rattle.pq_numbers.specs.declared.draws.Draw.{Draw}
use Rattle.pq_numbers.specs.Draws.{times_drawn, drawn_in_all, draw_of}
use Rattle.pq_numbers.proofs.Counts.{one_if, same_one, other_none, in_draw, in_next_draw, times-cons}
use Rattle.pq_timers.specs.declared.ticket.Ticket.{Ticket}
use Rattle.pq_timers.specs.Words.{number_of, times}
use Rattle.pq_timers.specs.WordRules.{arm_draw, is_in, is_set, state_at, moment_at}

-- a draw of one number has this number, or none
one_draw : (x n : ℕ) → in_draw x (draw_of n 1 true) ≡ one_if (eqb n x)
one_draw x n = let a = in_next_draw x n 1 true in dite (ℕ_discrete n x)
    (λ e. let b = same_one n x e in let c = ap one_if (le-ltb x n (omega arith)) in let d = ap one_if (lt-ltb x (n + 1) (omega arith)) in omega arith)
    (λ ne. let b = other_none n x ne in dite (dec_lt x n)
    (λ lt. let c = ap one_if (lt-ltb x n lt) in let d = ap one_if (lt-ltb x (n + 1) (omega arith)) in omega arith)
    (λ no. let c = ap one_if (le-ltb x n (omega arith)) in let d = ap one_if (le-ltb x (n + 1) (omega arith)) in omega arith))

pub drawn_times : (x : ℕ) (ts : List Ticket) → times_drawn x (map arm_draw ts) ≡ times x ts
drawn_times x [] = refl
drawn_times x (t ∷ ts) = let r = drawn_times x ts in let a = sum_by-cons (in_draw x) (arm_draw t) (map arm_draw ts) in let b = times-cons number_of x t ts in let c = one_draw x t.number in omega arith

pub drawn_length : (ts : List Ticket) → drawn_in_all (map arm_draw ts) ≡ length ts
drawn_length [] = refl
drawn_length (t ∷ ts) = let r = drawn_length ts in let a = sum_by-cons (λ (d : Draw). d.count) (arm_draw t) (map arm_draw ts) in omega arith

pub length-push : {A : Type 0} (l : List A) (x : A) → length (l ++ x ∷ []) ≡ length l + 1
length-push [] x = refl
length-push (y ∷ l) x = let r = length-push l x in omega arith

-- the sum of so much for each is so much of the sum
pub sum-scaled : {A : Type 0} (f : A → ℕ) (l : List A) → sum_by (λ (a : A). 16777216 * f a) l ≡ 16777216 * sum_by f l
sum-scaled f [] = omega arith
sum-scaled f (x ∷ l) = let r = sum-scaled f l in let a = sum_by-cons f x l in let b = sum_by-cons (λ a. 16777216 * f a) x l in omega arith

pub sum-eq : {A : Type 0} (f g : A → ℕ) (l : List A) → ((a : A) → f a ≡ g a) → sum_by f l ≡ sum_by g l
sum-eq f g [] same = refl
sum-eq f g (x ∷ l) same = let a = same x in let r = sum-eq f g l same in let b = sum_by-cons f x l in let c = sum_by-cons g x l in omega arith

-- a timer ends in one way at most
pub one_end : (n : ℕ) → is_in 4 n + is_in 2 n + is_in 3 n ≤ 1
one_end n = dite (ℕ_discrete n 2)
    (λ e. let a = same_one n 2 e in let b = other_none n 3 (λ z. omega arith) in let c = other_none n 4 (λ z. omega arith) in omega arith)
    (λ n2. let a = other_none n 2 n2 in dite (ℕ_discrete n 3)
    (λ e. let b = same_one n 3 e in let c = other_none n 4 (λ z. omega arith) in omega arith)
    (λ n3. let b = other_none n 3 n3 in dite (ℕ_discrete n 4)
    (λ e. let c = same_one n 4 e in omega arith)
    (λ n4. let c = other_none n 4 n4 in omega arith)))

pub is_in-le : (state n : ℕ) → is_in state n ≤ 1
is_in-le state n = dite (ℕ_discrete n state) (λ e. let a = same_one n state e in omega arith) (λ ne. let a = other_none n state ne in omega arith)

pub in_some : (state n : ℕ) → 0 < is_in state n → n ≡ state
in_some state n more = dite (ℕ_discrete n state) (λ e. e) (λ ne. let a = other_none n state ne in absurd (omega arith))

pub set-le : (n : ℕ) → is_set n ≤ 1
set-le zero = omega arith
set-le (suc n) = omega arith

pub set_some : (n : ℕ) → n ≢ 0 → is_set n ≡ 1
set_some zero ne = absurd (ne refl)
set_some (suc n) ne = refl

pub set_none : (n : ℕ) → is_set n ≡ 0 → n ≡ 0
set_none zero e = refl
set_none (suc n) e = absurd (omega arith)

-- the words of timers stand apart
pub one_state : (x y : ℕ) → state_at y ≡ state_at x → y ≡ x
one_state x y e = omega arith

pub state_apart : (x y : ℕ) → state_at y ≢ moment_at x
state_apart x y e = omega arith

pub not_made_state : (y : ℕ) → state_at y ≢ 0
not_made_state y e = omega arith
