use Rattle.std.proofs.Common.{◌≡◌, Ok, Err, refl}
use Rattle.std.proofs.lemmas.Result.{err_from_is_err_and}
use Rattle.pq_io.specs.Reading.{at_line_end, on_line, line_at}
use Rattle.inst_text.specs.Shop.{operation_at, row_of}
use Rattle.inst_text.proofs.OneByOne.{line_of_several, refused_then}
use Rattle.inst_text.proofs.ShopLines.{less_time}
use Rattle.inst_text.proofs.shop.reading.next_row.Goals as goal

pub returns-in_err-row-clause-exact : goal.returns-in_err-row-clause-exact
unfolding line_at row_of
returns-in_err-row-clause-exact c =
    let p = err_from_is_err_and c.from_residual-in_err-row.result c.from_residual-in_err-row.ensures.1 in
    rw (p.1, p.2, c.in_ok-words.ensures, line_of_several c.in_ok-words.words.number (operation_at c.args.machines) less_time c.args.machines c.args.room.now c.in_ok-words.words.words)
    (refused_then c.in_err-row.field-0.0 _ _ (refused_then c.in_err-row.field-0.0 _ _ c.in_err-row.ensures.exact))

pub returns-in_err-on_line-clause-exact : goal.returns-in_err-on_line-clause-exact
unfolding line_at row_of
returns-in_err-on_line-clause-exact c =
    let p = err_from_is_err_and c.from_residual-in_err-on_line.result c.from_residual-in_err-on_line.ensures.1 in
    let e : on_line c.in_ok-words.words.number (at_line_end c.next_operations.new.words.words) ≡ Err c.in_err-on_line.field-0.0 = cc (c.in_err-on_line.ensures, c.finish.ensures, c.line-line.ensures) in
    rw (p.1, p.2, c.in_ok-words.ensures, line_of_several c.in_ok-words.words.number (operation_at c.args.machines) less_time c.args.machines c.args.room.now c.in_ok-words.words.words, c.in_ok-row.ensures.exact, e) refl

pub returns-clause-exact : goal.returns-clause-exact
unfolding line_at row_of
returns-clause-exact c =
    let e : on_line c.in_ok-words.words.number (at_line_end c.next_operations.new.words.words) ≡ Ok c.in_ok-on_line.field-0 = cc (c.in_ok-on_line.ensures, c.finish.ensures, c.line-line.ensures) in
    rw (c.in_ok-words.ensures, line_of_several c.in_ok-words.words.number (operation_at c.args.machines) less_time c.args.machines c.args.room.now c.in_ok-words.words.words, c.in_ok-row.ensures.exact, e) refl
