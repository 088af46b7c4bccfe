use Rattle.std.proofs.Common.{◌≤◌, length}
use Rattle.std.specs.Prelude.{vec_len}
use Rattle.pq_tape.specs.Limits.{max_marks}
use Rattle.pq_tape.specs.HistoryReading.{marks_in}
use Rattle.pq_tape.proofs.MarksLines.{SoFar}
use Rattle.pq_tape.proofs.history.reading.next_marks.Given as goal

abbrev pub invariant-loop-marks : goal.invariant-loop-marks
invariant-loop-marks l = record {
  few : vec_len l.marks ≤ max_marks;
  so_far : SoFar l.marks.items l.seats l.text (marks_in 0 l.seats l.fn.text.lines l.fn.text.end);
}

abbrev pub decreases-loop-marks : goal.decreases-loop-marks
decreases-loop-marks l = length l.text.lines
