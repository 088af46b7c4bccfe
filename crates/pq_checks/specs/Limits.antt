-- The limit of a check.
use Rattle.std.specs.Prelude.{ℕ, ◌^◌}

-- a check of a queue is given fewer calls, or entries, than this
abbrev pub check_limit : ℕ
check_limit = 2 ^ 20
