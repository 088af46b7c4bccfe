use Rattle.std.proofs.Common.{◌≡◌, ◌≤◌}
use Rattle.bb_shared.proofs.tests.control.work.Given as goal

abbrev pub invariant-loop-turn : goal.invariant-loop-turn
invariant-loop-turn l = (l.seat.control ≡ l.control) × (l.seat.kept.closed ≤ l.seat.kept.opened)
