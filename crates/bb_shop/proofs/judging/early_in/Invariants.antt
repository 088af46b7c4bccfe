use Rattle.std.proofs.Common.{◌≡◌, ℕ, ◌+◌, ◌-◌, ◌<◌, get_or}
use Rattle.bb_shop.specs.Plans.{step_at}
use Rattle.bb_shop.specs.Judging.{IsEarlyIn}
use Rattle.bb_shop.proofs.judging.early_in.Given as goal

-- no operation so far starts too early, and the next one may start when the last one ends
abbrev pub invariant-loop-step : goal.invariant-loop-step
invariant-loop-step l = record {
  none : (h : ℕ) → h < l.step → IsEarlyIn l.row l.times h → ⊥;
  first : l.step ≡ 0 → l.ready ≡ 0;
  next : 0 < l.step → l.ready ≡ get_or l.times (l.step - 1) 0 + (step_at l.row (l.step - 1)).time;
}
