use Rattle.inst_text.proofs.PieceByPiece.{operation_written, all_operations_written}
use Rattle.inst_text.proofs.shop.writing.write_operations.Goals as goal

pub loop-operation-preserved : goal.loop-operation-preserved
loop-operation-preserved c =
    operation_written c.in-Some.others.now c.loop-operation.operation-index (record { machine = 0; time = 0 }) _ _ _ _ c.loop-operation-test.true c.in_ok-write_operation-2.ensures c.in_ok-push.ensures.items c.loop-operation.invariant

pub returns : goal.returns
returns c =
    all_operations_written c.args.row.now c.in-Some.first.now c.in-Some.others.now c.loop-operation.operation-index c.args.text.now.items _ _ c.in-Some.ensures.cases.0 c.loop-operation-test.false c.in_ok-write_operation.ensures c.loop-operation.invariant
