-- The limits of timers.
use Rattle.std.specs.Prelude.{ℕ, ◌^◌}

-- at most so many timers stand on one queue
abbrev pub max_timers : ℕ
max_timers = 1048576

-- each moment is below this
abbrev pub moment_limit : ℕ
moment_limit = 2 ^ 26

-- a pass arms and fires fewer times than this
abbrev pub use_limit : ℕ
use_limit = 2 ^ 24
