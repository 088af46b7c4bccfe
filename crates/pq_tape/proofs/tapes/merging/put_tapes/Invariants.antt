use Rattle.std.proofs.Common.{◌≡◌, length, drop}
use Rattle.pq_tape.specs.Tapes.{with_tapes}
use Rattle.pq_tape.proofs.tapes.merging.put_tapes.Given as goal

abbrev pub invariant-loop-tape : goal.invariant-loop-tape
invariant-loop-tape l = record {
  count : length l.marks.items ≡ length l.fn.marks.items;
  so_far : with_tapes (drop l.tape-index l.tapes) l.marks.items ≡ with_tapes l.tapes l.fn.marks.items;
}
