-- As many calls were made as two a turn at most.
use Rattle.std.proofs.Common.{◌*◌, ◌≤◌, length}
use Rattle.pq_seats.specs.Passes.{known}
use Rattle.pq_spot.specs.Passes.{Rests}
use Rattle.pq_spot.proofs.tests.turns.Given as goal

abbrev pub invariant-loop : goal.invariant-loop
invariant-loop g l = record {
  rests : Rests l.table l.pass;
  few : length (known l.pass).calls ≤ 2 * l.counter;
}
