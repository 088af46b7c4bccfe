-- The tree of dispatch orders: a node's name is the list of the jobs dispatched so far.
use Rattle.std.specs.Prelude.{ℕ, zero, suc, ◌≡◌, ◌+◌, ◌≤◌, ◌^◌, nat_le, nat_lt, if◌then◌else◌, List, [], ◌∷◌, ◌++◌}
use Rattle.std.specs.Prelude.{length, map, min}
use Rattle.inst_text.specs.Shop.{JobShop, operations}
use Rattle.bb_problem.specs.Tree.{Tree, below}
use Rattle.bb_problem.specs.Meaning.{Meaning}
use Rattle.bb_shop.specs.Plans.{IsFeasible, makespan}
use Rattle.bb_shop.specs.Dispatching.{state_of, IsOrder}
use Rattle.bb_shop.specs.Bounds.{bound_of}

-- The jobs that have operations left, in order: those with fewer start times than machines. The first row is
-- that of job j.
unfoldable pub jobs_left : ℕ → ℕ → List (List ℕ) → List ℕ
jobs_left machines j [] = []
jobs_left machines j (row ∷ rows) =
    if nat_lt (length row) machines then j ∷ jobs_left machines (j + 1) rows else jobs_left machines (j + 1) rows

-- The children: none where all operations are dispatched, else one for each job with operations left.
unfoldable pub children_of : JobShop → List ℕ → List ℕ
children_of s name =
    if nat_le (operations s) (length name) then [] else jobs_left s.machines 0 (state_of s name).starts

abbrev pub tree_of : JobShop → Tree
tree_of s = record { children = children_of s; bound = bound_of s; height = operations s }

-- the sum of the powers of n up to the k-th
abbrev pub powers : ℕ → ℕ → ℕ
powers n zero = 1
powers n (suc k) = powers n k + n ^ (suc k)

-- how many nodes the tree has at most, or 2^64 where that is less
abbrev pub tree_size : JobShop → ℕ
tree_size s = min (powers (length s.rows) (operations s)) (2 ^ 64)

-- what a schedule costs that is made by dispatching these jobs in order
abbrev pub order_cost : JobShop → List ℕ → ℕ
order_cost s name = makespan s (state_of s name).starts

-- Jobs can be dispatched after these until no operation is left, so that the schedule costs at most v.
pub record Reaches (s : JobShop) (name : List ℕ) (v : ℕ) : Type 0 where
  pub more : List ℕ
  pub order : IsOrder s (name ++ more)
  pub whole : length (name ++ more) ≡ operations s
  pub cost : order_cost s (name ++ more) ≤ v

-- a node: the jobs dispatched so far, each job's next step, and the ready times of the jobs and the machines
pub record Node : Type 0 where
  pub order : List ℕ
  pub steps : List ℕ
  pub jobs : List ℕ
  pub machines : List ℕ

-- the node of the shop with these jobs dispatched
pub record Stands (s : JobShop) (node : Node) (name : List ℕ) : Type 0 where
  pub same : node.order ≡ name
  pub order : IsOrder s name
  pub steps : node.steps ≡ map length (state_of s name).starts
  pub jobs : node.jobs ≡ (state_of s name).jobs
  pub machines : node.machines ≡ (state_of s name).machines

-- the least of these numbers, and 0 of none
abbrev pub least_of : List ℕ → ℕ
least_of [] = 0
least_of (x ∷ []) = x
least_of (x ∷ y ∷ ys) = min x (least_of (y ∷ ys))

-- the least cost of the orders that begin with these jobs and go on for so many more
unfoldable pub least_from : JobShop → ℕ → List ℕ → ℕ
least_from s zero name = order_cost s name
least_from s (suc more) name = least_of (map (λ k. least_from s more (below name k)) (children_of s name))

-- the least cost of a feasible schedule
abbrev pub least_cost : JobShop → ℕ
least_cost s = least_from s (operations s) []

-- what a shop means to a search: its schedules, and the tree of dispatch orders
abbrev pub meaning_of : JobShop → Meaning Node (List (List ℕ))
meaning_of s = record {
  is_feasible = IsFeasible s;
  cost_of = makespan s;
  least = least_cost s;
  tree = tree_of s;
  tree_size = tree_size s;
  stands = Stands s;
  reaches = Reaches s;
}
