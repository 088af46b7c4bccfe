use Rattle.std.proofs.Common.{◌≡◌, ◌<◌}
use Rattle.bb_shared.specs.Stores.{HasNoOver}
use Rattle.bb_shared.proofs.tests.store.work.Given as goal

abbrev pub invariant-loop-turn : goal.invariant-loop-turn
invariant-loop-turn l = (l.seat.store ≡ l.store) × (l.at < 4294967296) × HasNoOver l.seat.kept
