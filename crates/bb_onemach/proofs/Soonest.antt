-- The soonest of some jobs, one after another, and those that compete with it.
use Rattle.std.proofs.Common.{◌≡◌, ℕ, ◌<◌, ◌≤◌, List, [], ◌∷◌, refl, ap, ◌∙◌, length, get_or, arith}
use Rattle.std.specs.Prelude.{nat_lt, All}
use Rattle.std.proofs.lemmas.Bool.{cond-true, cond-false, lt-ltb, le-ltb}
use Rattle.std.proofs.lemmas.List.Elements.{All-head, All-tail}
use Rattle.bb_shop.specs.declared.booking.Booking.{Booking}
use Rattle.bb_onemach.specs.Branching.{sooner, soonest, critical}
use Rattle.bb_onemach.specs.TreeLawsHold.Passing.{soonest-keeps}

pub soonest-cons : (next : ℕ → Booking) (j k : ℕ) (ks : List ℕ) → soonest next j (k ∷ ks) ≡ soonest next (sooner next j k) ks
unfolding soonest
soonest-cons next j k ks = refl

pub soonest-nil : (next : ℕ → Booking) (j : ℕ) → soonest next j [] ≡ j
unfolding soonest
soonest-nil next j = refl

pub sooner-other : (next : ℕ → Booking) (j k : ℕ) → (next k).end < (next j).end → sooner next j k ≡ k
sooner-other next j k lt = cond-true (nat_lt (next k).end (next j).end) k j (lt-ltb (next k).end (next j).end lt)

pub sooner-this : (next : ℕ → Booking) (j k : ℕ) → (next j).end ≤ (next k).end → sooner next j k ≡ j
sooner-this next j k le = cond-false (nat_lt (next k).end (next j).end) k j (le-ltb (next k).end (next j).end le)

-- the first of the jobs is no sooner than itself
pub critical-start : (next : ℕ → Booking) (js : List ℕ) → 1 ≤ length js → soonest next (get_or js 0 0) js ≡ critical next js
critical-start next [] some = absurd (omega (arith, some))
critical-start next (j ∷ js) some = soonest-cons next j j js ∙ ap (λ k. soonest next k js) (sooner-this next j j (omega arith))

-- what holds of all jobs holds of the critical one
pub critical-keeps : (next : ℕ → Booking) (P : ℕ → Type 0) (js : List ℕ) → 1 ≤ length js → All P js → P (critical next js)
critical-keeps next P [] some all = absurd (omega (arith, some))
critical-keeps next P (j ∷ js) some all = soonest-keeps next P j js (All-head P j js all) (All-tail P j js all)
