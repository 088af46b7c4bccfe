use Rattle.std.proofs.Common.{◌+◌, ◌++◌, List, [], get_or, drop, map, refl, sym, ap, ◌∙◌, arith}
use Rattle.std.specs.Global.{Vec}
use Rattle.std.proofs.lemmas.List.{at_drop_more, length-map}
use Rattle.inst_text.specs.declared.shop.Operation.{Operation}
use Rattle.inst_text.specs.Shop.{row_time}
use Rattle.bb_shop.specs.TreeLawsHold.Times.{row_time-le}
use Rattle.bb_shop.specs.Tables.{prepared_row, prepared_rows}
use Rattle.bb_shop.proofs.Rows.{read_row}
use Rattle.bb_shop.specs.TreeLawsHold.Tabled.{prepared_rows-more}
use Rattle.bb_shop.proofs.prepared_operation.operation_table.Goals as goal

pub add_row-requires : goal.add_row-requires
add_row-requires c =
    let rows : List (List Operation) = map (λ r. r.items) c.args.rows.now in
    let row = read_row c.args.rows.now (λ (v : Vec Operation). v.items) rows c.loop-row.row-index c.row-item.result c.as_slice.result.now refl c.loop-row-test.true c.row-item.is c.as_slice.ensures.value in
    omega (arith, ap row_time row, row_time-le rows c.loop-row.row-index, c.requires)

pub loop-row-preserved : goal.loop-row-preserved
loop-row-preserved c =
    let rows : List (List Operation) = map (λ r. r.items) c.args.rows.now in
    let i = c.loop-row.row-index in
    let row = read_row c.args.rows.now (λ (v : Vec Operation). v.items) rows i c.row-item.result c.as_slice.result.now refl c.loop-row-test.true c.row-item.is c.as_slice.ensures.value in
    ap (λ t. t ++ prepared_rows (drop (i + 1) rows)) (c.in_ok-add_row.ensures ∙ ap (λ r. c.loop-row.table.items ++ prepared_row r) row)
    ∙ sym (prepared_rows-more c.loop-row.table.items (get_or rows i []) (drop (i + 1) rows))
    ∙ ap (λ t. c.loop-row.table.items ++ t) (sym (at_drop_more prepared_rows rows i [] (omega (arith, length-map c.args.rows.now (λ r. r.items), c.loop-row-test.true))))
    ∙ c.loop-row.invariant
