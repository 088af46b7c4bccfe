use Rattle.std.proofs.Common.{◌≡◌, ◌≤◌, length}
use Rattle.pq_timers.specs.Words.{IsSeatOf}
use Rattle.pq_timers.proofs.tests.arm_all.Given as goal

abbrev pub invariant-loop : goal.invariant-loop
invariant-loop l = IsSeatOf l.table l.seat × (length l.seat.kept.arms ≤ l.counter) × (l.armed ≤ l.counter)
