use Rattle.std.proofs.Common.{arith}
use Rattle.pq_pool.proofs.BenchAllows.{may_move}
use Rattle.pq_pool.proofs.PassLemmas.{within_list}
use Rattle.pq_pool.proofs.bench.Bench.publish.Goals as goal

pub publish-requires-clause-allowed : goal.publish-requires-clause-allowed
publish-requires-clause-allowed c = let b = c.requires.builder in let v = c.args.pass.now.seat.me.0.post.own in let is = c.requires.built in
    let lt = within_list v.stored.states c.args.chunk (omega arith) in let states = b.all.stored.states in
    may_move c.args.shared.now.table.shared.key c.args.pass.now.seat.id c.args.pass.now.seat.me.0 c.args.chunk 2 b.holds b.all (omega arith) (omega arith) (omega arith)
