-- The limit of a pass.
use Rattle.std.specs.Prelude.{ℕ, ◌^◌}

-- a pass makes fewer calls than this
abbrev pub call_limit : ℕ
call_limit = 2 ^ 25
