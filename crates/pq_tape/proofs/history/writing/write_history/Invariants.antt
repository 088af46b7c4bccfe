use Rattle.std.proofs.Common.{◌≡◌, ◌≤◌, [], ◌∷◌, ◌++◌, drop}
use Rattle.std.specs.Prelude.{IfSome}
use Rattle.pq_io.specs.Writing.{lines_text}
use Rattle.pq_tape.specs.HistoryText.{marks_lines, left_words, history_text}
use Rattle.pq_tape.specs.Pending.{Pending}
use Rattle.pq_tape.proofs.history.writing.write_history.Given as goal

abbrev pub invariant-loop-mark : goal.invariant-loop-mark
invariant-loop-mark g l = record {
  place : l.place ≡ l.mark-index;
  counted : g.K.Sink.faults l.sink ≡ g.K.Sink.faults l.fn.sink;
  pending : IfSome (g.K.Sink.written l.fn.sink) (λ before. Pending l.unsent.bytes (lines_text (marks_lines l.place (drop l.place l.marks) ++ left_words l.left ∷ [])) (history_text l.fn.head l.marks l.left) (g.K.Sink.written l.sink) before);
}
