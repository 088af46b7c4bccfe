use Rattle.std.proofs.Common.{get_or, ap, arith}
use Rattle.inst_text.specs.declared.shop.Operation.{Operation}
use Rattle.bb_shop.specs.TreeLawsHold.Times.{row_time-le, step_time-le}
use Rattle.bb_shop.specs.Plans.{row_at}
use Rattle.bb_shop.proofs.shop.Shop.next.Goals as goal

pub new-requires-clause-time : goal.new-requires-clause-time
new-requires-clause-time c =
    let rows = c.args.self.now.rows in
    let j = c.args.job in
    let operation = c.operation-operation.ensures.operation in
    omega (
      arith,
      ap (λ (o : Operation). o.time) operation,
      step_time-le (row_at rows j) (get_or c.steps.result.now j 0),
      row_time-le rows j,
      c.operation-operation.ensures.within_limits.times,
    )
