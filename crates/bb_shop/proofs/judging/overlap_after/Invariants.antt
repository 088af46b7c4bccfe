use Rattle.std.proofs.Common.{ℕ, ◌<◌}
use Rattle.bb_shop.specs.Verdicts.{Overlap}
use Rattle.bb_shop.proofs.judging.overlap_after.Given as goal

-- the operation overlaps with none of the jobs so far
abbrev pub invariant-loop-later : goal.invariant-loop-later
invariant-loop-later l = (j k : ℕ) → j < l.later → Overlap l.jobs l.starts l.job l.step j k → ⊥
