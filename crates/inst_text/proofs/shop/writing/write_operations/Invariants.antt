use Rattle.std.proofs.Common.{◌≡◌, ◌++◌, take}
use Rattle.inst_text.proofs.PieceByPiece.{spaced_operations}
use Rattle.inst_text.proofs.shop.writing.write_operations.Given as goal

abbrev pub invariant-loop-operation : goal.invariant-loop-operation
invariant-loop-operation l = l.text.items ≡ l.initial.text.items ++ spaced_operations (take l.operation-index l.others)
