-- The limits of a text of a history, and of what is held back while it is written.
use Rattle.std.specs.Prelude.{ℕ}

-- a text has at most this many marks
abbrev pub max_marks : ℕ
max_marks = 1048576

-- how many bytes are held back before they go to the sink together
abbrev pub buffer_room : ℕ
buffer_room = 4096

-- more than the longest line has
abbrev pub longest_line : ℕ
longest_line = 128
