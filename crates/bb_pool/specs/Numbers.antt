-- The nodes that were made, by number.
use Rattle.std.specs.Prelude.{ℕ, ◌≡◌, ◌<◌, ◌≤◌, List, [], length, Contains}
use Rattle.bb_problem.specs.Tree.{Tree, below}
use Rattle.bb_pool.specs.Searching.{name_at}

-- These are the names of the nodes that were made, by number. Number 0 is the root's. Each other is of a child of the
-- node of a lesser number, its parent, and `part` is the number that leads to it from there. No two numbers are of one
-- child of one parent.
pub record AreNames (tree : Tree) (names : List (List ℕ)) (parent part : ℕ → ℕ) : Type 0 where
  pub root : name_at names 0 ≡ []
  pub lesser : (n : ℕ) → 1 ≤ n → n < length names → parent n < n
  pub child : (n : ℕ) → 1 ≤ n → n < length names → Contains (tree.children (name_at names (parent n))) (part n)
  pub is : (n : ℕ) → 1 ≤ n → n < length names → name_at names n ≡ below (name_at names (parent n)) (part n)
  pub once : (n m : ℕ) → 1 ≤ n → 1 ≤ m → n < length names → m < length names
      → parent n ≡ parent m → part n ≡ part m → n ≡ m
