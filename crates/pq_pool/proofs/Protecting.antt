-- A chunk that is safe for a pinned seat stays so while it is pinned.
use Rattle.std.proofs.Common.{◌≡◌, ◌≢◌, ◌⊎◌, ℕ, zero, suc, ◌<◌, ◌≤◌, List, sym, ◌∙◌, subst, inl, inr, ⊎_elim, arith}
use native.Mathlib.Decide.{ℕ_discrete}
use mathlib.Core.Logic.{dite}
use Rattle.pq_pool.specs.declared.views.PoolState.{PoolState}
use Rattle.pq_pool.specs.States.{state_of, IsLive, IsYoung, IsSafe}
use Rattle.pq_pool.specs.Protection.{WhilePinned, PinsProtect}
use Rattle.pq_pool.specs.FactsStay.Building.{kinds_after, safe_after}

module _ (seats n last : ℕ) (words : ℕ → List ℕ) (counted : ℕ → PoolState) (r : WhilePinned seats n last words counted) where
  kinds : (i : ℕ) → i ≤ last → (c : ℕ) → state_of (counted i) c ≤ 4
  kinds zero low c = r.kinds c
  kinds (suc i) low c = let old = kinds i (omega arith) in ⊎_elim
      (λ a. kinds_after seats (r.builder i) (words i) (counted i) (counted (suc i)) old (inl a) c)
      (λ b. ⊎_elim
      (λ a. kinds_after seats (r.builder i) (words i) (counted i) (counted (suc i)) old (inr a) c)
      (λ m. let here = old c in ⊎_elim (λ e. omega arith) (λ e. ⊎_elim (λ x. omega arith) (λ x. omega arith) e) (m.states c))
      b)
      (r.steps i (omega arith))

  once : (i c : ℕ) → i < last → IsSafe (counted i) n c → IsSafe (counted (suc i)) n c
  once i c low safe =
      let old = kinds i (omega arith) in let apart : n ≢ r.builder i = λ z. r.apart i (sym z) in let word = r.pinned i (omega arith) in ⊎_elim
      (λ a. safe_after seats (r.builder i) (words i) (counted i) (counted (suc i)) old (inl a) n r.seat apart word c safe)
      (λ b. ⊎_elim
      (λ a. safe_after seats (r.builder i) (words i) (counted i) (counted (suc i)) old (inr a) n r.seat apart word c safe)
      (λ m. let two = safe.0 in let bit = m.grace n in ⊎_elim
      (λ e. (omega arith, λ four. λ z. safe.1 (sym e ∙ four) (sym bit ∙ z)))
      (λ e. ⊎_elim (λ x. (omega arith, λ four. absurd (omega arith))) (λ x. (omega arith, λ four. absurd (omega arith))) e)
      (m.states c))
      b)
      (r.steps i low)

  on : (j i c : ℕ) → i ≤ j → j ≤ last → IsSafe (counted i) n c → IsSafe (counted j) n c
  on zero i c low high safe = let z : i ≡ 0 = omega arith in subst (λ (y : ℕ). IsSafe (counted y) n c) z safe
  on (suc j) i c low high safe = dite (ℕ_discrete i (suc j))
      (λ e. subst (λ (y : ℕ). IsSafe (counted y) n c) e safe)
      (λ ne. once j c (omega arith) (on j i c (omega arith) (omega arith) safe))

  starts : (i c : ℕ) → IsLive (counted i) c ⊎ (IsYoung (counted i) c ⊎ IsSafe (counted i) n c) → IsSafe (counted i) n c
  starts i c s = ⊎_elim
      (λ a. (omega arith, λ four. absurd (omega arith)))
      (λ b. ⊎_elim (λ a. (omega arith, λ four. absurd (omega arith))) (λ f. f) b)
      s

pub protects : PinsProtect
protects seats n last words counted r i j c low high s =
    let f = on seats n last words counted r j i c low high (starts seats n last words counted r i c s) in let two = f.0 in (f, λ free. omega arith)
