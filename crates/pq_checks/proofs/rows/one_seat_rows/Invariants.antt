-- Rows are numbered from 0 on.
use Rattle.std.proofs.Common.{◌≡◌}
use Rattle.pq_checks.proofs.rows.one_seat_rows.Given as goal

abbrev pub invariant-loop-capacity : goal.invariant-loop-capacity
invariant-loop-capacity g l = l.number ≡ l.capacity-index
