use Rattle.std.proofs.Common.{arith}
use Rattle.bb_shop.specs.TreeLawsHold.Times.{step_time-le}
use Rattle.bb_shop.proofs.Rows.{start-le}
use Rattle.bb_shop.proofs.judging.early_in.Goals as goal

pub overflow_add-ready : goal.overflow_add-ready
overflow_add-ready c =
    omega (arith, step_time-le c.args.row.now c.loop-step.step, start-le c.args.times.now c.loop-step.step c.requires.early, c.requires.limited)
