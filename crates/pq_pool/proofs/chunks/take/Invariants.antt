use Rattle.std.proofs.Common.{◌≡◌, ℕ, ◌<◌}
use Rattle.pq_pool.specs.Passes.{pool_of, StaysBuilder}
use Rattle.pq_pool.specs.States.{IsFree}
use Rattle.pq_pool.proofs.chunks.take.Given as goal

abbrev pub invariant-loop-chunk : goal.invariant-loop-chunk
invariant-loop-chunk g l = let P = g.R.PoolRule.pool in
    StaysBuilder P l.shared l.initial.pass l.pass
    × (pool_of P l.pass ≡ pool_of P l.initial.pass)
    × ((b : ℕ) → b < l.chunk → ¬ IsFree (pool_of P l.initial.pass).stored b)
