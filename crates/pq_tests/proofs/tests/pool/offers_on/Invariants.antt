use Rattle.pq_pool.specs.Passes.{HoldsBuilder, AgreesAt}
use Rattle.pq_pool.specs.Bench.{bench_pool}
use Rattle.pq_tests.proofs.tests.pool.offers_on.Given as goal

abbrev pub invariant-loop-turn : goal.invariant-loop-turn
invariant-loop-turn l = HoldsBuilder bench_pool l.shared l.pass × AgreesAt bench_pool l.shared l.pass
