use Rattle.std.proofs.Common.{◌≡◌, true, Contains}
use Rattle.pq_seats.specs.Passes.{view_of, Belongs}
use Rattle.pq_pool.specs.Layout.{builder_word}
use Rattle.pq_pool.specs.Passes.{pool_of}
use Rattle.pq_pool.specs.Bench.{bench_pool}
use Rattle.pq_tests.proofs.tests.pool.looks_on.Given as goal

abbrev pub invariant-loop : goal.invariant-loop
invariant-loop l = Belongs l.shared l.pass × ((pool_of bench_pool l.pass).pinned ≡ true) × (¬ Contains (view_of l.pass).post.locks builder_word)
