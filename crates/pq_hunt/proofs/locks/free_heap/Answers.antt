use Rattle.pq_hunt.proofs.Keeping.Locking.{may_free_heap}
use Rattle.pq_hunt.proofs.locks.free_heap.Goals as goal

pub unlock-requires-clause-allowed : goal.unlock-requires-clause-allowed
unlock-requires-clause-allowed c = may_free_heap c.args.table.now.table.shared.key c.args.pass.now.seat.id c.args.pass.now.seat.me.0 c.requires.held c.requires.stored
