-- The limits of a pool.
use Rattle.std.specs.Prelude.{ℕ, ◌+◌}
use Rattle.pq_words.specs.Limits.{max_chunk}

-- a pool has at most this many chunks, which are numbered from 0 to `max_chunk`
abbrev pub max_chunks : ℕ
max_chunks = max_chunk + 1
