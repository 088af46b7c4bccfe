use Rattle.std.proofs.Common.{◌≡◌, take}
use Rattle.bb_shop.specs.Working.{left_in}
use Rattle.bb_shop.proofs.branching.left.Given as goal

abbrev pub invariant-loop-job : goal.invariant-loop-job
invariant-loop-job l = l.jobs.items ≡ left_in l.machines (take l.job l.steps)
