use Rattle.std.proofs.Common.{◌≡◌, ◌++◌, drop}
use Rattle.inst_text.specs.Shop.{row_time}
use Rattle.bb_shop.specs.Tables.{prepared_row}
use Rattle.bb_shop.proofs.prepared_operation.add_row.Given as goal

abbrev pub invariant-loop-operation : goal.invariant-loop-operation
invariant-loop-operation l = record {
  rest : l.tail ≡ row_time (drop l.operation-index l.row);
  added : l.table.items ++ prepared_row (drop l.operation-index l.row) ≡ l.initial.table.items ++ prepared_row l.row;
}
