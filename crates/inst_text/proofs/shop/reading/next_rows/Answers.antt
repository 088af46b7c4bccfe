use Rattle.std.proofs.Common.{arith}
use Rattle.std.proofs.lemmas.List.{map-append}
use Rattle.std.proofs.lemmas.Result.{err_from_is_err_and}
use Rattle.pq_io.specs.Reading.{line_at}
use Rattle.inst_text.specs.Shop.{row_of}
use Rattle.inst_text.proofs.OneByOne.{goes_on, refused, is_done}
use Rattle.inst_text.proofs.ShopLines.{less_row}
use Rattle.inst_text.proofs.shop.reading.next_rows.Goals as goal

pub returns-in_err-row : goal.returns-in_err-row
returns-in_err-row c =
    let p = err_from_is_err_and c.from_residual-in_err-row.result c.from_residual-in_err-row.ensures.1 in
    rw (p.1, p.2)
    (refused (λ r. line_at (row_of c.args.machines r)) less_row _ c.args.jobs c.loop.counter c.loop.room c.loop.text c.in_err-row.field-0.0 _ c.loop-test.true c.in_err-row.ensures.exact c.loop.invariant.so_far)

pub loop-preserved : goal.loop-preserved
loop-preserved c = record {
  room = omega (arith, c.in_ok-row.ensures.left);
  so_far =
      rw (c.in_ok-push.ensures.items, c.in_ok-row.ensures.left, map-append)
      (goes_on (λ r. line_at (row_of c.args.machines r)) less_row _ c.args.jobs c.loop.counter c.loop.room c.loop.text c.in_ok-row.row.items _ _ c.loop-test.true c.in_ok-row.ensures.exact c.loop.invariant.so_far);
}

pub returns : goal.returns
returns c = is_done (λ r. line_at (row_of c.args.machines r)) less_row _ c.args.jobs c.loop.counter c.loop.room c.loop.text _ c.loop-test.false c.loop.invariant.so_far
