-- Until the state is set, the seat has read states and nothing else.
use Rattle.std.proofs.Common.{◌≡◌}
use Rattle.pq_timers.proofs.Hands.{IsReading}
use Rattle.pq_timers.proofs.words.table.TimerTable.wait_until_set.Given as goal

abbrev pub invariant-loop : goal.invariant-loop
invariant-loop g l = (l.seat.table ≡ l.initial.seat.table) × (l.seat.kept.limits ≡ l.initial.seat.kept.limits) × IsReading l.initial.seat.kept l.seat.kept
