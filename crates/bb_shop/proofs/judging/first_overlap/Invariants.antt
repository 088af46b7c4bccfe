use Rattle.std.proofs.Common.{ℕ, ◌<◌}
use Rattle.bb_shop.specs.Verdicts.{Overlap}
use Rattle.bb_shop.proofs.judging.first_overlap.Given as goal

-- no operation of the jobs so far overlaps with a later one
abbrev pub invariant-loop-job : goal.invariant-loop-job
invariant-loop-job l = (i h j k : ℕ) → i < l.job → Overlap l.jobs l.starts i h j k → ⊥
