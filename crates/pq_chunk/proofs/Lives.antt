-- The chunks of the chain are live.
use Rattle.std.proofs.Common.{◌≡◌, ◌≢◌, ℕ, zero, suc, ◌+◌, ◌<◌, ◌≤◌, eqb, cond, Bool, true, false, List, [], ◌∷◌, length, get_or, refl, ap, ◌∙◌, subst, ⊎_elim, arith, Contains}
use Rattle.std.proofs.lemmas.Bool.Decides.{eqb_tells}
use Rattle.std.proofs.lemmas.List.Sums.{sum_by-cons}
use native.Mathlib.Decide.{ℕ_discrete}
use mathlib.Core.Logic.{dite}
use Rattle.pq_seats.specs.declared.views.Post.{Post}
use Rattle.pq_seats.proofs.Lists.{in_cases, in_first, in_later, not_in, test_same, test_other}
use Rattle.pq_pool.specs.declared.views.PoolState.{PoolState}
use Rattle.pq_pool.specs.States.{state_of}
use Rattle.pq_chunk.specs.declared.views.ChunkView.{ChunkView}
use Rattle.pq_chunk.specs.Views.{times}
use Rattle.pq_chunk.specs.Chain.{ChainFacts, Replaced, live_one}

pub times-cons : (c x : ℕ) (l : List ℕ) → times c (x ∷ l) ≡ cond (eqb x c) 1 0 + times c l
times-cons c x l = sum_by-cons (λ (y : ℕ). cond (eqb y c) 1 0) x l

pub times_here : (c : ℕ) (l : List ℕ) → times c (c ∷ l) ≡ 1 + times c l
times_here c l = times-cons c c l ∙ ap (λ (z : ℕ). z + times c l) (test_same c c 1 0 refl)

pub times_else : (c x : ℕ) (l : List ℕ) → x ≢ c → times c (x ∷ l) ≡ times c l
times_else c x l ne = let a = times-cons c x l in let b = test_other x c 1 0 ne in omega arith

pub times_in : (c : ℕ) (l : List ℕ) → Contains l c → 0 < times c l
times_in c [] has = absurd (not_in c has)
times_in c (x ∷ xs) has = let t = times-cons c x xs in ⊎_elim
    (λ e. let a = test_same x c 1 0 e in omega arith)
    (λ r. let a = times_in c xs r in omega arith)
    (in_cases x c xs has)

one_two : (b : Bool) (x : ℕ) → b ≡ eqb x 2 → 0 < cond b 1 0 → x ≡ 2
one_two true x e h = ⊎_elim (λ t. t.1) (λ t. let a = t.0 in absurd (cc)) (eqb_tells x 2)
one_two false x e h = absurd (omega arith)

pub live_two : (b : PoolState) (c : ℕ) → 0 < live_one b c → state_of b c ≡ 2
live_two b c h = one_two (eqb (state_of b c) 2) (state_of b c) refl h

pub two_live : (b : PoolState) (c : ℕ) → state_of b c ≡ 2 → live_one b c ≡ 1
two_live b c e = ap (λ (z : ℕ). cond (eqb z 2) 1 0) e

pub live_most : (b : PoolState) (c : ℕ) → live_one b c ≤ 1
live_most b c = most (eqb (state_of b c) 2)
  where
    most : (t : Bool) → cond t 1 0 ≤ 1
    most true = omega arith
    most false = omega arith

-- a list has nothing behind its end
pub within_or_zero : (l : List ℕ) (i : ℕ) → 0 < get_or l i 0 → i < length l
within_or_zero [] i h = absurd (omega arith)
within_or_zero (x ∷ l) zero h = omega arith
within_or_zero (x ∷ l) (suc i) h = let r = within_or_zero l i h in omega arith

module _ (counted : PoolState) (first : ℕ) (chunks : List ℕ) (old : Replaced) (words : List ℕ) (posts : List (Post ChunkView)) (t : ChainFacts counted first chunks old words posts) where
  pub chained_live : (c : ℕ) → Contains (first ∷ chunks) c → state_of counted c ≡ 2
  chained_live c has = let a = t.lives c in let b = times_in c (first ∷ chunks) has in live_two counted c (omega arith)

pub in_times : (c : ℕ) (l : List ℕ) → 0 < times c l → Contains l c
in_times c [] h = absurd (omega arith)
in_times c (x ∷ xs) h = let t = times-cons c x xs in dite (ℕ_discrete x c)
    (λ e. subst (λ (z : ℕ). Contains (x ∷ xs) z) e (in_first x xs))
    (λ d. let o = test_other x c 1 0 d in in_later x c xs (in_times c xs (omega arith)))
