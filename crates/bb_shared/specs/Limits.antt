-- The limits of what workers share.
use Rattle.std.specs.Prelude.{ℕ, ◌^◌}

-- a store has at most this many numbers
abbrev pub max_nodes : ℕ
max_nodes = 1048560

-- the count of nodes that was asked for where the limit was exceeded is below this
abbrev pub asked_limit : ℕ
asked_limit = 2 ^ 33
