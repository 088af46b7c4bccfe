use Rattle.std.proofs.Common.{◌≡◌, ◌+◌, length, drop}
use Rattle.pq_tape.specs.Tapes.{places}
use Rattle.pq_tape.proofs.tapes.merging.count_calls.Given as goal

abbrev pub invariant-loop-tape : goal.invariant-loop-tape
invariant-loop-tape l = l.count + length (places (drop l.tape-index l.tapes)) ≡ length (places l.tapes)
