use Rattle.std.proofs.Common.{arith}
use Rattle.pq_hunt.proofs.Keeping.Locking.{may_take_heap}
use Rattle.pq_hunt.proofs.locks.take_heap.Goals as goal

pub lock-requires-clause-allowed : goal.lock-requires-clause-allowed
lock-requires-clause-allowed g c = let own = c.requires.own in let seated = own.seated.0 in let named = own.named in
    may_take_heap c.args.table.now.table.shared.key c.args.pass.now.seat.id c.args.pass.now.seat.me.0 (omega arith)
