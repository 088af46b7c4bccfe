use Rattle.std.proofs.Common.{◌<◌, ℕ, Option, drop}
use Rattle.std.specs.Prelude.{All}
use Rattle.pq_words.specs.Limits.{key_limit}
use Rattle.pq_model.specs.Passes.{Knows}
use Rattle.bb_pool.specs.Origins.{Origin, IsAmongOrigins, AreLeftOf}
use Rattle.bb_pool.specs.Together.{doing, IsOneOf}
use Rattle.bb_pool.proofs.Several.Turns.{IsPutting}
use Rattle.bb_pool.proofs.workers.turn.put_kept.Given as goal

abbrev pub invariant-loop-node : goal.invariant-loop-node
invariant-loop-node g l = record {
  own : IsOneOf g.Q.SharedQueue.belongs l.shared l.worker;
  knows : Knows (g.Q.SharedQueue.seats_of l.shared.queue) (g.Q.SharedQueue.capacity_of l.shared.queue) (g.Q.SharedQueue.known l.worker.pass);
  putting : IsPutting (g.P.Problem.meaning l.problem) l.shared.nodes l.best (doing g.Q.SharedQueue.known l.fn.worker) (doing g.Q.SharedQueue.known l.worker) l.node-iterator.rest.items (drop l.place l.worker.keys.items) l.number;
  small : All (λ (key : ℕ). key < key_limit) l.worker.keys.items;
  traced : (root : Option ℕ) (o : Origin g.row.P-Node.Denot) → IsAmongOrigins (g.P.Problem.meaning l.problem) root o l.fn.worker.seat.kept → AreLeftOf (g.P.Problem.meaning l.problem) l.best o l.first l.fn.children.items l.fn.worker.keys.items
      → IsAmongOrigins (g.P.Problem.meaning l.problem) root o l.worker.seat.kept × AreLeftOf (g.P.Problem.meaning l.problem) l.best o l.number l.node-iterator.rest.items (drop l.place l.worker.keys.items);
}
