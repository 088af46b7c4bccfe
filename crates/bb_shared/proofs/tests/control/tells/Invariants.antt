use Rattle.std.proofs.Common.{◌≡◌}
use Rattle.bb_shared.proofs.tests.control.tells.Given as goal

abbrev pub invariant-loop-cost : goal.invariant-loop-cost
invariant-loop-cost l = (l.teller.control ≡ l.control) × (l.reader.control ≡ l.control)
