-- The limits of a search.
use Rattle.std.specs.Prelude.{ℕ, ◌^◌}
-- the greatest node limit
pub use Rattle.bb_shared.specs.Limits.{max_nodes}

-- a worker that found nothing tries again while its pass has made fewer calls than this
abbrev pub idle_calls : ℕ
idle_calls = 2 ^ 24
