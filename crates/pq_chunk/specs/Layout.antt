-- Where the words of a chunk queue stand, beside those of the base and of the pool.
use Rattle.std.specs.Prelude.{ℕ, ◌+◌, ◌-◌, ◌*◌, ◌/◌}
use Rattle.pq_words.specs.Limits.{raw_limit}
use Rattle.pq_model.specs.Limits.{max_seats}
use Rattle.pq_pool.specs.Layout.{first_chunk, chunk_words}

-- each chunk has so many places
abbrev pub place_count : ℕ
place_count = 64

-- what is drawn from a count is at most this: the places, and one more for each of 16 seats
abbrev pub count_limit : ℕ
count_limit = 80

-- the high of the last chunk: the number of the greatest entry
abbrev pub greatest : ℕ
greatest = raw_limit - 1

-- of a chunk: a place, the count of the places that were drawn, and its bounds
abbrev pub place_word : ℕ → ℕ → ℕ
place_word c i = 50 + 69 * c + i

abbrev pub count_word : ℕ → ℕ
count_word c = 114 + 69 * c

abbrev pub low_word : ℕ → ℕ
low_word c = 116 + 69 * c

abbrev pub high_word : ℕ → ℕ
high_word c = 117 + 69 * c

-- how many chunks the queue has: as many as 32 entries each need, and 64 more
abbrev pub chunk_count : ℕ → ℕ
chunk_count capacity = (capacity + 31) / 32 + 64

-- the offer of a seat, behind the chunks
abbrev pub offer_word : ℕ → ℕ → ℕ
offer_word capacity n = first_chunk + chunk_words * chunk_count capacity + n - 1

abbrev pub table_words : ℕ → ℕ
table_words capacity = first_chunk + chunk_words * chunk_count capacity + max_seats
