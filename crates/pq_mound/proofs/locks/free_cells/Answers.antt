use Rattle.pq_mound.proofs.FreeCells.{may_free_cells}
use Rattle.pq_mound.proofs.locks.free_cells.Goals as goal

pub unlock-requires-clause-allowed : goal.unlock-requires-clause-allowed
unlock-requires-clause-allowed c = may_free_cells c.args.table.now.table.shared.key c.args.pass.now.seat.id
    c.args.pass.now.seat.me.0 c.requires.held c.requires.counted
