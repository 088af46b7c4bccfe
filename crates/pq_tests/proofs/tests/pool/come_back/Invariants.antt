use Rattle.pq_pool.specs.Passes.{HoldsBuilder, AgreesAt}
use Rattle.pq_pool.specs.Bench.{bench_pool}
use Rattle.pq_tests.proofs.tests.pool.come_back.Given as goal

abbrev pub invariant-loop : goal.invariant-loop
invariant-loop l = HoldsBuilder bench_pool l.shared l.pass × AgreesAt bench_pool l.shared l.pass
