-- The limits of a problem.
use Rattle.std.specs.Prelude.{ℕ, ◌^◌}

-- costs and bounds are below this
abbrev pub cost_limit : ℕ
cost_limit = 2 ^ 26

-- a branch has at most so many children
abbrev pub max_children : ℕ
max_children = 100

-- the size of a tree that has so many nodes or more
abbrev pub size_limit : ℕ
size_limit = 2 ^ 64
