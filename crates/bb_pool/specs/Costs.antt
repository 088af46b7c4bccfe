-- A cost beside the best so far, of which there may be none yet.
use Rattle.std.specs.Prelude.{ℕ, ◌≤◌, Option, Some, None}
use Rattle.pq_words.specs.Limits.{key_limit}
pub use Rattle.bb_shared.specs.Costs.{is_better}

-- what the keys of nodes that are worth a look are below
abbrev pub limit_of : Option ℕ → ℕ
limit_of None = key_limit
limit_of (Some best) = best

-- the best so far, if there is one, is at least the least cost
abbrev pub IsAtLeast : ℕ → Option ℕ → Type 0
IsAtLeast least None = Unit {0}
IsAtLeast least (Some best) = least ≤ best
