-- The lists of the live chunks, and of those that are safe for a seat.
use Rattle.std.proofs.Common.{◌≡◌, ◌≢◌, ◌⊎◌, ℕ, zero, suc, ◌<◌, ◌≤◌, Bool, true, false, cond, List, [], ◌∷◌, ◌++◌, sym, refl, ap, ◌∙◌, subst, inl, inr, ⊎_elim, arith, Contains}
use Rattle.std.proofs.lemmas.List.Elements.{Contains-append_left, Contains-append_right, Contains-append_cases}
use native.Mathlib.Decide.{ℕ_discrete}
use mathlib.Core.Logic.{dite}
use Rattle.pq_seats.proofs.Lists.{not_in, in_first, in_later, in_cases}

-- the numbers below n of which a test holds
abbrev pub chosen : (ℕ → Bool) → ℕ → List ℕ
chosen f zero = []
chosen f (suc n) = cond (f n) (n ∷ chosen f n) (chosen f n)

has_either : (b : Bool) (x : ℕ) (xs : List ℕ) (c : ℕ) → Contains (cond b (x ∷ xs) xs) c → ((b ≡ true) × (c ≡ x)) ⊎ Contains xs c
has_either true x xs c h = ⊎_elim (λ e. inl (refl, sym e)) (λ r. inr r) (in_cases x c xs h)
has_either false x xs c h = inr h

has_later : (b : Bool) (x : ℕ) (xs : List ℕ) (c : ℕ) → Contains xs c → Contains (cond b (x ∷ xs) xs) c
has_later true x xs c h = in_later x c xs h
has_later false x xs c h = h

has_now : (b : Bool) (x : ℕ) (xs : List ℕ) → b ≡ true → Contains (cond b (x ∷ xs) xs) x
has_now true x xs e = in_first x xs
has_now false x xs e = absurd (cc)

pub chosen_passes : (f : ℕ → Bool) (n c : ℕ) → Contains (chosen f n) c → (c < n) × (f c ≡ true)
chosen_passes f zero c h = absurd (not_in c h)
chosen_passes f (suc n) c h = ⊎_elim
    (λ e. let q = e.1 in (omega arith, ap f e.1 ∙ e.0))
    (λ r. let q = chosen_passes f n c r in let q' = q.0 in (omega arith, q.1))
    (has_either (f n) n (chosen f n) c h)

pub passing_chosen : (f : ℕ → Bool) (n c : ℕ) → c < n → f c ≡ true → Contains (chosen f n) c
passing_chosen f zero c lt e = absurd (omega arith)
passing_chosen f (suc n) c lt e = dite (ℕ_discrete c n)
    (λ q. subst (λ (z : ℕ). Contains (cond (f n) (n ∷ chosen f n) (chosen f n)) z) (sym q) (has_now (f n) n (chosen f n) (ap f (sym q) ∙ e)))
    (λ q. has_later (f n) n (chosen f n) c (passing_chosen f n c (omega arith) e))

-- the numbers of a new list, and of an old one where a test holds
abbrev pub also : Bool → List ℕ → List ℕ → List ℕ
also true old new = new ++ old
also false old new = new

pub also_cases : (b : Bool) (old new : List ℕ) (c : ℕ) → Contains (also b old new) c → Contains new c ⊎ ((b ≡ true) × Contains old c)
also_cases true old new c h = ⊎_elim (λ a. inl a) (λ r. inr (refl, r)) (Contains-append_cases new old c h)
also_cases false old new c h = inl h

pub also_new : (b : Bool) (old new : List ℕ) (c : ℕ) → Contains new c → Contains (also b old new) c
also_new true old new c h = Contains-append_left new old c h
also_new false old new c h = h

pub also_old : (b : Bool) (old new : List ℕ) (c : ℕ) → b ≡ true → Contains old c → Contains (also b old new) c
also_old true old new c e h = Contains-append_right new old c h
also_old false old new c e h = absurd (cc)

-- a test of a state and a grace bit: the chunk is safe
some_bit : ℕ → Bool
some_bit zero = false
some_bit (suc n) = true

pub tests_safe : ℕ → ℕ → Bool
tests_safe zero g = false
tests_safe (suc zero) g = false
tests_safe (suc (suc zero)) g = true
tests_safe (suc (suc (suc zero))) g = true
tests_safe (suc (suc (suc (suc zero)))) g = some_bit g
tests_safe (suc (suc (suc (suc (suc n))))) g = true

some_bit_is : (g : ℕ) → some_bit g ≡ true → g ≢ 0
unfolding some_bit
some_bit_is zero e = absurd (cc)
some_bit_is (suc n) e = λ z. omega arith

is_some_bit : (g : ℕ) → g ≢ 0 → some_bit g ≡ true
unfolding some_bit
is_some_bit zero ne = absurd (ne refl)
is_some_bit (suc n) ne = refl

pub tested_safe : (x g : ℕ) → tests_safe x g ≡ true → (2 ≤ x) × (x ≡ 4 → g ≢ 0)
unfolding tests_safe
tested_safe zero g e = absurd (cc)
tested_safe (suc zero) g e = absurd (cc)
tested_safe (suc (suc zero)) g e = (omega arith, λ four. absurd (omega arith))
tested_safe (suc (suc (suc zero))) g e = (omega arith, λ four. absurd (omega arith))
tested_safe (suc (suc (suc (suc zero)))) g e = (omega arith, λ four. some_bit_is g e)
tested_safe (suc (suc (suc (suc (suc n))))) g e = (omega arith, λ four. absurd (omega arith))

pub safe_tests : (x g : ℕ) → 2 ≤ x → (x ≡ 4 → g ≢ 0) → tests_safe x g ≡ true
unfolding tests_safe
safe_tests zero g low bit = absurd (omega arith)
safe_tests (suc zero) g low bit = absurd (omega arith)
safe_tests (suc (suc zero)) g low bit = refl
safe_tests (suc (suc (suc zero))) g low bit = refl
safe_tests (suc (suc (suc (suc zero)))) g low bit = is_some_bit g (bit refl)
safe_tests (suc (suc (suc (suc (suc n))))) g low bit = refl
