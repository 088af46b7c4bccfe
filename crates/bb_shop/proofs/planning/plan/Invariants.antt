use Rattle.std.proofs.Common.{take}
use Rattle.bb_shop.specs.Working.{IsMade}
use Rattle.bb_shop.proofs.planning.plan.Given as goal

abbrev pub invariant-loop-job : goal.invariant-loop-job
invariant-loop-job l = IsMade l.shop (take l.job-index l.order) l.schedule
