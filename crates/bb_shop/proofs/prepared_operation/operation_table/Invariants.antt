use Rattle.std.proofs.Common.{◌≡◌, ◌++◌, drop, map}
use Rattle.bb_shop.specs.Tables.{prepared_rows}
use Rattle.bb_shop.proofs.prepared_operation.operation_table.Given as goal

abbrev pub invariant-loop-row : goal.invariant-loop-row
invariant-loop-row l =
    l.table.items ++ prepared_rows (drop l.row-index (map (λ row. row.items) l.rows)) ≡ prepared_rows (map (λ row. row.items) l.rows)
