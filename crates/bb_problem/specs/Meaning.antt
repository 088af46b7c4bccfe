-- What a problem means to a search, and the laws that it owes.
use Rattle.std.specs.Prelude.{ℕ, ◌≡◌, ◌≢◌, ◌≤◌, ◌<◌, List, [], length, nat_eq, Contains}
use Rattle.std.specs.List.{IsDistinct}
use Rattle.bb_problem.specs.Limits.{size_limit}
use Rattle.bb_problem.specs.Tree.{Tree, below, node_count}

-- Plans of a type `P`, their costs, and the tree of nodes of a type `N` that a search goes through. A node has a
-- name, the list of the numbers that lead to it from the root.
pub record Meaning (N P : Type 0) : Type 1 where
  -- the plan can be carried out
  pub is_feasible : P → Type 0
  pub cost_of : P → ℕ
  -- the least cost of a feasible plan
  pub least : ℕ
  pub tree : Tree
  -- a number that the tree's nodes do not exceed where it is below `size_limit`, 2^64
  pub tree_size : ℕ
  -- the node belongs to the problem, under this name
  pub stands : N → List ℕ → Type 0
  -- a feasible plan of at most this cost stands under the node of this name
  pub reaches : List ℕ → ℕ → Type 0

pub record IsLawful {N P : Type 0} (m : Meaning N P) : Type 0 where
  -- a feasible plan's cost is reached from the root
  pub reached : (plan : P) → m.is_feasible plan → m.reaches [] (m.cost_of plan)
  -- a node's bound is at most what it reaches
  pub bounded : (name : List ℕ) (v : ℕ) → m.reaches name v → m.tree.bound name ≤ v
  -- what a node reaches, one of its children reaches
  pub passed_on : (name : List ℕ) (v : ℕ) → m.reaches name v → m.tree.children name ≢ []
      → (k : ℕ) × Contains (m.tree.children name) k × m.reaches (below name k) v
  -- the children of a node have different names
  pub told_apart : (name : List ℕ) → IsDistinct nat_eq (m.tree.children name)
  -- names do not grow past the tree's height
  pub ends : (name : List ℕ) → m.tree.height ≤ length name → m.tree.children name ≡ []
  -- there is a feasible plan of least cost
  pub attained : (plan : P) × m.is_feasible plan × (m.cost_of plan ≡ m.least)
  pub least_of_all : (plan : P) → m.is_feasible plan → m.least ≤ m.cost_of plan
  pub counted : m.tree_size < size_limit → node_count m.tree ≤ m.tree_size
