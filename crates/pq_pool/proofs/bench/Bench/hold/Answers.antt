use Rattle.std.proofs.Common.{arith}
use Rattle.pq_pool.proofs.BenchAllows.{may_take}
use Rattle.pq_pool.proofs.bench.Bench.hold.Goals as goal

pub lock-requires-clause-allowed : goal.lock-requires-clause-allowed
lock-requires-clause-allowed g c = let l = c.requires.loose in let is = l.sits.named in let low = l.sits.seated.0 in
    may_take c.args.shared.now.table.shared.key c.args.pass.now.seat.id c.args.pass.now.seat.me.0 (λ z. omega arith) l.unpinned
