use Rattle.pq_pool.specs.Passes.{pool_of, StaysBuilder}
use Rattle.pq_pool.specs.SweepSteps.{StatesStored}
use Rattle.pq_pool.proofs.sweeping.store_all_states.Given as goal

abbrev pub invariant-loop-chunk : goal.invariant-loop-chunk
invariant-loop-chunk g l = let P = g.R.PoolRule.pool in
    StaysBuilder P l.shared l.initial.pass l.pass
    × StatesStored (pool_of P l.initial.pass) (pool_of P l.pass) l.chunk
