-- Until the node is there, the seat keeps what it had.
use Rattle.std.proofs.Common.{◌≡◌}
use Rattle.bb_shared.proofs.store.nodes.Store.take.Given as goal

abbrev pub invariant-loop : goal.invariant-loop
invariant-loop g l = (l.seat.store ≡ l.initial.seat.store) × (l.seat.kept ≡ l.initial.seat.kept)
