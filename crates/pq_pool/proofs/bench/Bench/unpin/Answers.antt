use Rattle.std.proofs.Common.{arith}
use Rattle.pq_pool.proofs.BenchAllows.{may_unpin}
use Rattle.pq_pool.proofs.BenchRests.{unpinned_rests}
use Rattle.pq_pool.proofs.bench.Bench.unpin.Goals as goal

pub unpin-requires-clause-allowed : goal.unpin-requires-clause-allowed
unpin-requires-clause-allowed c = let is = c.requires.own.named in let low = c.requires.own.seated.0 in
    may_unpin c.args.shared.now.table.shared.key c.args.pass.now.seat.id c.args.pass.now.seat.me.0 (λ z. omega arith) c.requires.no_lock

pub returns-clause-rests : goal.returns-clause-rests
returns-clause-rests c = unpinned_rests c.args.pass.now.seat.me.0 c.unpin.new.pass.seat.me.0 c.unpin.ensures.same.rest c.unpin.ensures.view
