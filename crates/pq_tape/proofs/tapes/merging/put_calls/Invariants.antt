use Rattle.std.proofs.Common.{◌≡◌, length, drop}
use Rattle.pq_tape.specs.Tapes.{with_calls}
use Rattle.pq_tape.proofs.tapes.merging.put_calls.Given as goal

abbrev pub invariant-loop-call : goal.invariant-loop-call
invariant-loop-call l = record {
  count : length l.marks.items ≡ length l.fn.marks.items;
  so_far : with_calls l.seat (drop l.call-index l.calls) l.marks.items ≡ with_calls l.seat l.calls l.fn.marks.items;
}
