use Rattle.std.proofs.Common.{◌<◌, ℕ, length, drop}
use Rattle.std.specs.Prelude.{All, reverse}
use Rattle.pq_words.specs.Limits.{key_limit}
use Rattle.bb_pool.specs.Underway.{state_of}
use Rattle.bb_pool.proofs.OnePass.Putting.{IsPutting}
use Rattle.bb_pool.proofs.plain.branch.Given as goal

abbrev pub invariant-loop-node : goal.invariant-loop-node
invariant-loop-node g l = record {
  putting : let before = state_of g.C.OnePass.seat l.fn.search in
      IsPutting (g.P.Problem.meaning l.problem) l.nodes before.queue.capacity (length before.queue.known.calls) l.best (state_of g.C.OnePass.seat l.search) (reverse l.children.items) (drop l.place l.search.keys.items);
  small : All (λ (key : ℕ). key < key_limit) l.search.keys.items;
}

abbrev pub decreases-loop-node : goal.decreases-loop-node
decreases-loop-node g l = goal.left-loop-node g l
