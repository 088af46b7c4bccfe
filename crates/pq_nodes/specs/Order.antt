-- The order of a tree.
use Rattle.std.specs.Prelude.{ℕ, ◌≤◌}
use Rattle.pq_nodes.specs.Ancestors.{IsAbove}

-- Each node has a bound, which is on what stands below it, and a number that stands at it. A node that bounds nothing
-- has the bound 0, and one at which nothing stands has a number that no bound exceeds. The order speaks of every proper
-- ancestor, and not of the parent alone, so that it also says something across a node that bounds nothing.
pub record IsOrder (bound stand : ℕ → ℕ) : Type 0 where
  pub order : (a i : ℕ) → IsAbove a i → bound a ≤ stand i
