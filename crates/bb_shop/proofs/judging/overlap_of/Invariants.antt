use Rattle.std.proofs.Common.{ℕ, ◌<◌}
use Rattle.bb_shop.specs.Verdicts.{Overlap}
use Rattle.bb_shop.proofs.judging.overlap_of.Given as goal

-- none of the job's operations so far overlaps with a later one
abbrev pub invariant-loop-step : goal.invariant-loop-step
invariant-loop-step l = (h j k : ℕ) → h < l.step → Overlap l.jobs l.starts l.job h j k → ⊥
