use Rattle.std.proofs.Common.{arith}
use Rattle.pq_pool.specs.Parts.{pool_view}
use Rattle.pq_pool.proofs.PassLemmas.{within_list}
use Rattle.pq_pool.proofs.chunks.publish.Goals as goal

pub move_to-requires-clause-chunk : goal.move_to-requires-clause-chunk
move_to-requires-clause-chunk g c = let v = pool_view g.R.PoolRule.pool c.args.pass.now.seat.me.0 in let is = c.requires.built in
    within_list v.stored.states c.args.chunk (omega arith)
