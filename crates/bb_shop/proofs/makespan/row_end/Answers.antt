use Rattle.std.proofs.Common.{length, rules, ap, arith}
use Rattle.std.proofs.lemmas.Slice.Zip.{zip_turn, zip_end}
use Rattle.inst_text.specs.declared.shop.Operation.{Operation}
use Rattle.bb_shop.specs.TreeLawsHold.Times.{step_time-le}
use Rattle.bb_shop.proofs.Rows.{start-le, row_end-past}
use Rattle.bb_shop.proofs.makespan.row_end.Goals as goal

pub overflow_add-start : goal.overflow_add-start
overflow_add-start c =
    let row = c.args.row.now in
    let times = c.args.times.now in
    let i = length c.loop-operation.yielded in
    let turn = zip_turn row times c.loop-operation.yielded c.into_iter-operation-iterator.result c.loop-operation.operation-iterator c.next.new.self c.next.result (search rules) (search rules) c.loop-operation.yielded_by (c.in-Some.operation, c.in-Some.start) c.in-Some.is c.next.ensures.steps in
    omega (arith, ap (λ (o : Operation). o.time) (turn.2 (record { machine = 0; time = 0 })), turn.3 0, step_time-le row i, start-le times i c.requires.starts, c.requires.times)

pub returns : goal.returns
returns c =
    let row = c.args.row.now in
    let times = c.args.times.now in
    let i = length c.loop-operation.yielded in
    let end = zip_end row times c.loop-operation.yielded c.into_iter-operation-iterator.result c.loop-operation.operation-iterator c.next.new.self c.next.result (search rules) (search rules) c.loop-operation.yielded_by c.in-None.is c.next.ensures.steps in
    omega (arith, c.loop-operation.invariant, row_end-past row times i end)
