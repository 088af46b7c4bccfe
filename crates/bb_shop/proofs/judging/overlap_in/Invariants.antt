use Rattle.std.proofs.Common.{ℕ, ◌<◌}
use Rattle.bb_shop.specs.Judging.{OverlapsIn}
use Rattle.bb_shop.proofs.judging.overlap_in.Given as goal

-- no operation so far overlaps
abbrev pub invariant-loop-step : goal.invariant-loop-step
invariant-loop-step l = (h : ℕ) → h < l.step → OverlapsIn l.booking l.row l.times l.from h → ⊥
