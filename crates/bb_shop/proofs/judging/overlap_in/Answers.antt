use Rattle.std.proofs.Common.{arith}
use Rattle.bb_shop.specs.TreeLawsHold.Times.{step_time-le}
use Rattle.bb_shop.proofs.judging.overlap_in.Goals as goal

pub new-requires-clause-time : goal.new-requires-clause-time
new-requires-clause-time c = omega (arith, step_time-le c.args.row.now c.loop-step.step, c.requires.limited)
