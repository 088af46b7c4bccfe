use Rattle.std.proofs.Common.{arith}
use Rattle.pq_mound.proofs.FreeCells.{may_take_cells}
use Rattle.pq_mound.proofs.locks.take_cells.Goals as goal

pub lock-requires-clause-allowed : goal.lock-requires-clause-allowed
lock-requires-clause-allowed g c = let own = c.requires.own in let seated = own.seated.0 in let named = own.named in
    may_take_cells c.args.table.now.table.shared.key c.args.pass.now.seat.id c.args.pass.now.seat.me.0 (omega arith)
