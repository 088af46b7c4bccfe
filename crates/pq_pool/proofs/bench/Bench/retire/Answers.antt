use Rattle.std.proofs.Common.{arith}
use Rattle.pq_pool.proofs.BenchAllows.{may_move}
use Rattle.pq_pool.proofs.PassLemmas.{within_list}
use Rattle.pq_pool.proofs.bench.Bench.retire.Goals as goal

pub retire-requires-clause-allowed : goal.retire-requires-clause-allowed
retire-requires-clause-allowed c = let b = c.requires.builder in let v = c.args.pass.now.seat.me.0.post.own in let is = c.requires.live in
    let lt = within_list v.counted.states c.args.chunk (omega arith) in let states = b.all.counted.states in
    may_move c.args.shared.now.table.shared.key c.args.pass.now.seat.id c.args.pass.now.seat.me.0 c.args.chunk 3 b.holds b.all (omega arith) (omega arith) (omega arith)
