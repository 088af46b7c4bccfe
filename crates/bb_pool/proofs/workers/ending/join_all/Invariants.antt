use Rattle.std.proofs.Common.{ℕ, ◌+◌, ◌≤◌, ◌≡◌, length}
use Rattle.bb_pool.specs.Limits.{idle_calls}
use Rattle.bb_pool.specs.Together.{doing, IsOneOf, IsTogether}
use Rattle.bb_pool.specs.Runs.{AreEnded}
use Rattle.bb_pool.proofs.workers.ending.join_all.Given as goal

abbrev pub invariant-loop-other : goal.invariant-loop-other
invariant-loop-other g l = record {
  own : IsOneOf g.Q.SharedQueue.belongs l.shared l.first;
  joined : (n : ℕ) × (1 ≤ n) × (n + length l.other-iterator.rest.items ≡ length l.fn.workers.items)
      × IsTogether (g.P.Problem.meaning l.problem) l.shared.nodes (g.Q.SharedQueue.seats_of l.shared.queue) (g.Q.SharedQueue.capacity_of l.shared.queue) (idle_calls + 1) 1 n (doing g.Q.SharedQueue.known l.first)
      × AreEnded g.Q.SharedQueue.belongs g.Q.SharedQueue.known g.Q.SharedQueue.seats_of g.Q.SharedQueue.capacity_of (g.P.Problem.meaning l.problem) l.shared n l.other-iterator.rest.items;
}
