-- Where the words of the pool stand: behind the history word and the letters of 16 seats, before what a queue adds.
use Rattle.std.specs.Prelude.{◌≡◌, ℕ, ◌+◌, ◌*◌, ◌<◌, ◌≤◌}
use Rattle.pq_pool.specs.Limits.{max_chunks}

-- 0, or the number of the seat that builds
abbrev pub builder_word : ℕ
builder_word = 17

-- of a seat: 1 where it is pinned, else 0
abbrev pub pin_word : ℕ → ℕ
pin_word n = 17 + n

-- the grace bit of a seat
abbrev pub grace_word : ℕ → ℕ
grace_word n = 33 + n

-- where the chunks begin, and how many words each has
abbrev pub first_chunk : ℕ
first_chunk = 50

abbrev pub chunk_words : ℕ
chunk_words = 69

-- of a chunk: the number of the chunk that it links to plus 1, or 0
abbrev pub next_word : ℕ → ℕ
next_word c = 115 + 69 * c

-- its state
abbrev pub state_word : ℕ → ℕ
state_word c = 118 + 69 * c

-- A table of this many words has this many chunks. A queue's own words behind them are fewer than those of one chunk
pub record Chunks (words : ℕ) : Type 0 where
  pub count : ℕ
  pub more : ℕ
  pub room : words ≡ first_chunk + chunk_words * count + more
  pub less : more < chunk_words
  pub few : count ≤ max_chunks
