use Rattle.std.proofs.Common.{◌≡◌, ◌<◌, ◌≤◌, ℕ, length, take}
use Rattle.std.specs.Prelude.{All}
use Rattle.pq_words.specs.Limits.{key_limit}
use Rattle.bb_pool.specs.Children.{AreBounds, better_keys}
use Rattle.bb_pool.proofs.children.bounds.Given as goal

abbrev pub invariant-loop-node : goal.invariant-loop-node
invariant-loop-node g l = record {
  bounds : AreBounds (g.P.Problem.meaning l.problem) (take l.node-index l.nodes) l.keys.items;
  small : All (λ (key : ℕ). key < key_limit) l.keys.items;
  kept : l.kept ≡ length (better_keys l.best l.keys.items);
  few : l.kept ≤ l.node-index;
}
