use Rattle.std.proofs.Common.{◌≡◌, ◌+◌, drop}
use Rattle.inst_text.specs.Shop.{row_time}
use Rattle.bb_shop.proofs.prepared_operation.time_of.Given as goal

abbrev pub invariant-loop-operation : goal.invariant-loop-operation
invariant-loop-operation l = l.time + row_time (drop l.operation-index l.row) ≡ row_time l.row
