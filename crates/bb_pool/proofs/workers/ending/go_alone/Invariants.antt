use Rattle.std.proofs.Common.{◌+◌}
use Rattle.pq_model.specs.Passes.{Knows}
use Rattle.bb_pool.specs.Limits.{idle_calls}
use Rattle.bb_pool.specs.Origins.{KeepsOrigins}
use Rattle.bb_pool.specs.Together.{doing, IsOneOf}
use Rattle.bb_pool.specs.Runs.{HasRun}
use Rattle.bb_pool.proofs.workers.ending.go_alone.Given as goal

abbrev pub invariant-loop : goal.invariant-loop
invariant-loop g l = record {
  own : IsOneOf g.Q.SharedQueue.belongs l.shared l.worker;
  knows : Knows (g.Q.SharedQueue.seats_of l.shared.queue) (g.Q.SharedQueue.capacity_of l.shared.queue) (g.Q.SharedQueue.known l.worker.pass);
  run : HasRun (g.P.Problem.meaning l.problem) l.shared.nodes (idle_calls + 1) (doing g.Q.SharedQueue.known l.fn.worker) (doing g.Q.SharedQueue.known l.worker);
  traced : KeepsOrigins (g.P.Problem.meaning l.problem) l.fn.worker.seat.kept l.worker.seat.kept;
}
