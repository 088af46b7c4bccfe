use Rattle.pq_timers.specs.Words.{IsSeatOf}
use Rattle.pq_timers.proofs.tests.are_unknown.Given as goal

abbrev pub invariant-loop-number : goal.invariant-loop-number
invariant-loop-number l = IsSeatOf l.table l.seat
