use Rattle.std.proofs.Common.{◌≡◌, length, Ok, sym, arith}
use Rattle.std.proofs.lemmas.Result.{err_from_is_err_and}
use Rattle.pq_io.specs.Reading.{line_at}
use Rattle.pq_tape.specs.declared.history.lines.HistoryLine.TheVariants.{Marked, Ends}
use Rattle.pq_tape.specs.HistoryReading.{line_of}
use Rattle.pq_tape.proofs.MarksLines.{line_fewer, mark_counts, goes_on, is_done, is_extra, is_faulty}
use Rattle.pq_tape.proofs.history.reading.next_marks.Goals as goal

pub returns-in_err-mark : goal.returns-in_err-mark
returns-in_err-mark c =
    let p = err_from_is_err_and c.from_residual.result c.from_residual.ensures.1 in
    let at : c.len.result ≡ length c.loop-marks.marks.items = omega arith in
    rw (p.1, p.2) (is_faulty c.loop-marks.marks.items c.args.seats c.len.result c.loop-marks.text _ _ at c.in_err-mark.ensures c.loop-marks.invariant.so_far)

pub loop-marks-smaller : goal.loop-marks-smaller
loop-marks-smaller c = line_fewer c.len.result c.args.seats c.loop-marks.text c.next_history_line.new.text c.in_ok-mark.field-0 c.in_ok-mark.ensures

pub loop-marks-preserved : goal.loop-marks-preserved
loop-marks-preserved c =
    let at : c.len.result ≡ length c.loop-marks.marks.items = omega arith in
    let e : line_at (line_of c.len.result c.args.seats) c.loop-marks.text ≡ Ok (record { value = Marked c.in-Marked.mark; rest = c.next_history_line.new.text }) = (rw c.in-Marked.is at c.in_ok-mark.ensures) in
    let few = mark_counts c.len.result c.args.seats c.loop-marks.text c.next_history_line.new.text c.in-Marked.mark e in
    record {
      few = omega (arith, few, c.in_ok-push-in-Marked.ensures.len);
      so_far = rw c.in_ok-push-in-Marked.ensures.items (goes_on c.loop-marks.marks.items c.args.seats c.len.result c.loop-marks.text c.next_history_line.new.text c.in-Marked.mark _ at e c.loop-marks.invariant.so_far);
    }

pub returns-in_err-finish-in-Ends : goal.returns-in_err-finish-in-Ends
returns-in_err-finish-in-Ends c =
    let p = err_from_is_err_and c.from_residual-in_err-finish-in-Ends.result c.from_residual-in_err-finish-in-Ends.ensures.1 in
    let at : c.len.result ≡ length c.loop-marks.marks.items = omega arith in
    let e : line_at (line_of c.len.result c.args.seats) c.loop-marks.text ≡ Ok (record { value = Ends c.in-Ends.left; rest = c.next_history_line.new.text }) = (rw c.in-Ends.is at c.in_ok-mark.ensures) in
    rw (p.1, p.2) (is_extra c.loop-marks.marks.items c.args.seats c.len.result c.loop-marks.text c.next_history_line.new.text c.in-Ends.left _ _ at e (sym c.in_err-finish-in-Ends.ensures) c.loop-marks.invariant.so_far)

pub returns-in-Ends : goal.returns-in-Ends
returns-in-Ends c =
    let at : c.len.result ≡ length c.loop-marks.marks.items = omega arith in
    let e : line_at (line_of c.len.result c.args.seats) c.loop-marks.text ≡ Ok (record { value = Ends c.in-Ends.left; rest = c.next_history_line.new.text }) = (rw c.in-Ends.is at c.in_ok-mark.ensures) in
    is_done c.loop-marks.marks.items c.args.seats c.len.result c.loop-marks.text c.next_history_line.new.text c.in-Ends.left _ at e (sym c.in_ok-finish-in-Ends.ensures) c.loop-marks.invariant.so_far
