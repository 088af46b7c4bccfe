use Rattle.pq_pool.specs.Passes.{pool_of, StaysBuilder}
use Rattle.pq_pool.specs.Sweeps.{GoneOver}
use Rattle.pq_pool.proofs.sweeping.go_over.Given as goal

abbrev pub invariant-loop-seat : goal.invariant-loop-seat
invariant-loop-seat g l = let P = g.R.PoolRule.pool in
    StaysBuilder P l.shared l.initial.pass l.pass
    × GoneOver l.shared.seats (pool_of P l.initial.pass) (pool_of P l.pass) l.seat l.left
