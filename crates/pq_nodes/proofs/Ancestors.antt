-- Proper ancestors: one step at either end, and no step more.
use Rattle.std.proofs.Common.{◌≡◌, ◌⊎◌, ℕ, zero, suc, ◌*◌, ◌/◌, ◌<◌, ◌≤◌, inl, inr, refl, sym, arith}
use native.Mathlib.Decide.{ℕ_discrete}
use mathlib.Core.Logic.{dite}
use Rattle.pq_nodes.specs.Ancestors.{halved, IsAbove}

pub parent : (i : ℕ) → 2 ≤ i → IsAbove (i / 2) i
parent i some = record { steps = 0; positive = omega arith; is = refl }

pub above_child : (a i : ℕ) → IsAbove a (i / 2) → IsAbove a i
above_child a i up = record { steps = suc up.steps; positive = up.positive; is = up.is }

-- the step at the lower end
pub below_end : (a i : ℕ) → IsAbove a i → (a ≡ i / 2) ⊎ IsAbove a (i / 2)
below_end a i up = by_steps up.steps up.is
  where
    by_steps : (n : ℕ) → halved (suc n) i ≡ a → (a ≡ i / 2) ⊎ IsAbove a (i / 2)
    by_steps zero is = inl (sym is)
    by_steps (suc n) is = inr (record { steps = n; positive = up.positive; is = is })

halved_twice : (n i : ℕ) → 2 * halved (suc n) i ≤ i
halved_twice zero i = omega arith
halved_twice (suc n) i = let rest = halved_twice n (i / 2) in omega arith

pub above_twice : (a i : ℕ) → IsAbove a i → 2 * a ≤ i
above_twice a i up = let h = halved_twice up.steps i in let e = up.is in omega arith

pub above_lt : (a i : ℕ) → IsAbove a i → a < i
above_lt a i up = let h = above_twice a i up in let p = up.positive in omega arith

pub above_root : (i : ℕ) → 2 ≤ i → IsAbove 1 i
above_root i some = record { steps = (steps_of i some).0; positive = omega arith; is = (steps_of i some).1 }
  where
    steps_to : (fuel i : ℕ) → i ≤ fuel → 2 ≤ i → (n : ℕ) × (halved (suc n) i ≡ 1)
    steps_to zero i le some = absurd (omega arith)
    steps_to (suc fuel) i le some = dite (ℕ_discrete (i / 2) 1) (λ e. (0, e))
        (λ ne. let rest = steps_to fuel (i / 2) (omega arith) (omega arith) in (suc rest.0, rest.1))

    steps_of : (i : ℕ) → 2 ≤ i → (n : ℕ) × (halved (suc n) i ≡ 1)
    steps_of i some = steps_to i i (omega arith) some

-- the step at the upper end: i is a child of h or below one
pub data Under (h i : ℕ) : Type 0 where
  is_child : i / 2 ≡ h → Under h i
  below_child : (c : ℕ) → c / 2 ≡ h → IsAbove c i → Under h i

pub upper_end : (h i : ℕ) → IsAbove h i → Under h i
upper_end h i up = by_steps up.steps i up.is
  where
    by_steps : (n i : ℕ) → halved (suc n) i ≡ h → Under h i
    by_steps zero i is = is_child is
    by_steps (suc n) i is = elim (by_steps n (i / 2) is) as (λ _. Under h i) [
      | is_child e ↦ below_child (i / 2) e (parent i (let p = up.positive in omega arith))
      | below_child c e below ↦ below_child c e (above_child c i below)
    ]

pub above_above : (a h i : ℕ) → IsAbove a h → IsAbove h i → IsAbove a i
above_above a h i up down = by_steps down.steps i down.is
  where
    by_steps : (n i : ℕ) → halved (suc n) i ≡ h → IsAbove a i
    by_steps zero i is = above_child a i (rw is up)
    by_steps (suc n) i is = above_child a i (by_steps n (i / 2) is)
