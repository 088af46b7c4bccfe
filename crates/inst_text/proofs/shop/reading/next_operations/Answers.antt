use Rattle.std.proofs.Common.{◌∙◌, sym, ap, arith}
use Rattle.std.proofs.lemmas.Result.{err_from_is_err_and}
use Rattle.pq_io.specs.Reading.{on_line}
use Rattle.inst_text.specs.Several.{with_line}
use Rattle.inst_text.specs.Shop.{operation_at}
use Rattle.inst_text.proofs.OneByOne.{goes_on, ends, is_done}
use Rattle.inst_text.proofs.ShopLines.{less_time, row_time-push}
use Rattle.inst_text.proofs.shop.reading.next_operations.Goals as goal

pub returns-in_err-operation-clause-exact : goal.returns-in_err-operation-clause-exact
returns-in_err-operation-clause-exact c =
    let p = err_from_is_err_and c.from_residual-in_err-operation.result c.from_residual-in_err-operation.ensures.1 in
    let line = c.loop.invariant.line in
    rw (p.1, p.2)
    (ends (with_line c.args.words.now.number (operation_at c.args.machines)) less_time c.loop.row.items c.args.machines c.loop.counter c.loop.room c.loop.words.words _ _ c.loop-test.true
    (ap (λ n. on_line n (operation_at c.args.machines c.loop.room c.loop.words.words)) (sym line) ∙ c.in_err-operation.ensures.exact) c.loop.invariant.so_far)

pub loop-preserved : goal.loop-preserved
loop-preserved c = record {
  left = rw (c.in_ok-push.ensures.items, c.from.ensures) (omega (arith, row_time-push c.loop.row.items c.in_ok-operation.operation, c.in_ok-operation.ensures.fits, c.loop.invariant.left));
  line = c.next_operation.ensures.line ∙ c.loop.invariant.line;
  so_far =
      rw (c.in_ok-push.ensures.items, c.from.ensures)
      (goes_on (with_line c.args.words.now.number (operation_at c.args.machines)) less_time c.loop.row.items c.args.machines c.loop.counter c.loop.room c.loop.words.words c.in_ok-operation.operation _ _ c.loop-test.true
      (ap (λ n. on_line n (operation_at c.args.machines c.loop.room c.loop.words.words)) (sym c.loop.invariant.line) ∙ c.in_ok-operation.ensures.exact) c.loop.invariant.so_far);
}

pub returns-clause-exact : goal.returns-clause-exact
returns-clause-exact c =
    is_done (with_line c.args.words.now.number (operation_at c.args.machines)) less_time c.loop.row.items c.args.machines c.loop.counter c.loop.room c.loop.words.words _ c.loop-test.false c.loop.invariant.so_far
