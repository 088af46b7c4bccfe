-- What follows from what is known of a search.
use Rattle.std.specs.Prelude.{ℕ, ◌≡◌, ◌<◌, ◌≤◌, List, [], length}
use Rattle.bb_problem.specs.Limits.{size_limit}
use Rattle.bb_problem.specs.Tree.{Tree, node_count}
use Rattle.bb_problem.specs.Meaning.{Meaning}
use Rattle.bb_pool.specs.Numbers.{AreNames}

-- Where names do not grow past the tree's height, there are no more numbers than the tree has nodes.
abbrev pub NumbersAreNames : Type 0
NumbersAreNames = (tree : Tree) (names : List (List ℕ)) (parent part : ℕ → ℕ)
    → ((name : List ℕ) → tree.height ≤ length name → tree.children name ≡ [])
    → AreNames tree names parent part → length names ≤ node_count tree

-- And no more than is known of the tree's size.
abbrev pub NumbersAreWithinSize : {N P : Type 0} → Meaning N P → Type 0
NumbersAreWithinSize m = (names : List (List ℕ)) (parent part : ℕ → ℕ)
    → m.tree_size < size_limit → AreNames m.tree names parent part → length names ≤ m.tree_size
