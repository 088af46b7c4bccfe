use Rattle.std.proofs.Common.{◌≡◌}
use Rattle.bb_shared.proofs.tests.store.take_all.Given as goal

abbrev pub invariant-loop-number : goal.invariant-loop-number
invariant-loop-number l = l.seat.store ≡ l.store
