use Rattle.std.proofs.Common.{◌≡◌, Ok, Err, refl}
use Rattle.std.proofs.lemmas.Result.{err_from_is_err_and}
use Rattle.pq_io.specs.Reading.{at_line_end, number_at, on_line, line_at}
use Rattle.inst_text.specs.Limits.{max_total}
use Rattle.inst_text.specs.Plans.{start_row_of}
use Rattle.inst_text.proofs.OneByOne.{line_of_several, refused_then}
use Rattle.inst_text.proofs.PlanLines.{same_state}
use Rattle.inst_text.proofs.plan.schedules.next_start_row.Goals as goal

pub returns-in_err-row : goal.returns-in_err-row
unfolding line_at start_row_of
returns-in_err-row c =
    let p = err_from_is_err_and c.from_residual-in_err-row.result c.from_residual-in_err-row.ensures.1 in
    rw (p.1, p.2, c.in_ok-words.ensures, line_of_several c.in_ok-words.words.number (λ (s : Unit {0}). number_at 0 max_total) same_state c.args.count tt c.in_ok-words.words.words)
    (refused_then c.in_err-row.field-0.0 _ _ (refused_then c.in_err-row.field-0.0 _ _ c.in_err-row.ensures.exact))

pub returns-in_err-on_line : goal.returns-in_err-on_line
unfolding line_at start_row_of
returns-in_err-on_line c =
    let p = err_from_is_err_and c.from_residual-in_err-on_line.result c.from_residual-in_err-on_line.ensures.1 in
    let e : on_line c.in_ok-words.words.number (at_line_end c.next_start_times.new.words.words) ≡ Err c.in_err-on_line.field-0.0 = cc (c.in_err-on_line.ensures, c.finish.ensures, c.line-line.ensures) in
    rw (p.1, p.2, c.in_ok-words.ensures, line_of_several c.in_ok-words.words.number (λ (s : Unit {0}). number_at 0 max_total) same_state c.args.count tt c.in_ok-words.words.words, c.in_ok-row.ensures.exact, e) refl

pub returns : goal.returns
unfolding line_at start_row_of
returns c =
    let e : on_line c.in_ok-words.words.number (at_line_end c.next_start_times.new.words.words) ≡ Ok c.in_ok-on_line.field-0 = cc (c.in_ok-on_line.ensures, c.finish.ensures, c.line-line.ensures) in
    rw (c.in_ok-words.ensures, line_of_several c.in_ok-words.words.number (λ (s : Unit {0}). number_at 0 max_total) same_state c.args.count tt c.in_ok-words.words.words, c.in_ok-row.ensures.exact, e) refl
