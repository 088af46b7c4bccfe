use Rattle.pq_spot.proofs.Allows.{may_free}
use Rattle.pq_spot.proofs.spot.free.Goals as goal

pub unlock-requires-clause-allowed : goal.unlock-requires-clause-allowed
unlock-requires-clause-allowed c = may_free c.args.table.now.table.shared.key c.args.pass.now.seat.id c.args.pass.now.seat.me.0 c.requires.locks c.requires.stored
