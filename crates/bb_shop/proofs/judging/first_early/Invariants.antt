use Rattle.std.proofs.Common.{ℕ, ◌<◌}
use Rattle.bb_shop.specs.Judging.{IsEarlyAt}
use Rattle.bb_shop.proofs.judging.first_early.Given as goal

-- no operation of the jobs so far starts too early
abbrev pub invariant-loop-job : goal.invariant-loop-job
invariant-loop-job l = (i h : ℕ) → i < l.job → IsEarlyAt l.jobs l.starts i h → ⊥
