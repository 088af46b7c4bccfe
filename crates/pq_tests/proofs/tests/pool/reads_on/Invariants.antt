use Rattle.pq_pool.specs.Bench.{IsLoose}
use Rattle.pq_tests.proofs.tests.pool.reads_on.Given as goal

abbrev pub invariant-loop : goal.invariant-loop
invariant-loop l = IsLoose l.shared l.pass
