use Rattle.pq_timers.specs.Words.{IsSeatOf}
use Rattle.pq_timers.proofs.tests.end_all.Given as goal

abbrev pub invariant-loop-number : goal.invariant-loop-number
invariant-loop-number g l = IsSeatOf l.table l.seat
