-- The words of a fresh queue, and the law on the greatest total.
use Rattle.std.specs.Prelude.{◌≡◌, ℕ, ◌-◌, ◌+◌, ◌<◌, ◌≤◌, List, [], ◌∷◌, length, replicate, slice_index}
use Rattle.pq_words.specs.Limits.{max_claimed, dry_at, total_limit}
use Rattle.pq_model.specs.Limits.{max_seats}
use Rattle.pq_seats.specs.declared.views.Limits.{Limits}
use Rattle.pq_seats.specs.Views.{empty_post}
use Rattle.pq_seats.specs.Rules.{Table, Holds}
use Rattle.pq_seats.specs.Laws.{history_limit}
use Rattle.pq_pool.specs.Layout.{first_chunk, next_word, state_word}
use Rattle.pq_chunk.specs.declared.views.ChunkView.{ChunkView}
use Rattle.pq_chunk.specs.Layout.{place_count, greatest, place_word, count_word, low_word, high_word, chunk_count, offer_word, table_words}
use Rattle.pq_chunk.specs.Views.{idle_chunk}
use Rattle.pq_chunk.specs.Rules.{chunk_rule, ChunkTied}

-- Chunk 0 is the first and empty, with top 0. It links to chunk 1, which has room for every entry. All others are free
pub record Fresh (k : Limits) (words : List ℕ) : Type 0 where
  pub capacity : k.capacity ≤ max_claimed
  pub seats : k.seats ≤ max_seats
  pub long : length words ≡ k.words
  pub sized : k.words ≡ table_words k.capacity
  pub front : slice_index words 0 ≡ dry_at
  pub low : (i : ℕ) → 1 ≤ i → i < first_chunk → slice_index words i ≡ 0
  pub places : (c i : ℕ) → i < place_count → slice_index words (place_word c i) ≡ 0
  pub counts : (c : ℕ) → slice_index words (count_word c) ≡ 0
  pub states : (c : ℕ) → c < chunk_count k.capacity
      → slice_index words (state_word c) ≡ slice_index (2 ∷ 2 ∷ replicate (chunk_count k.capacity - 2) 0) c
  pub next_first : slice_index words (next_word 0) ≡ 2
  pub next_second : slice_index words (next_word 1) ≡ 0
  pub high_first : slice_index words (high_word 0) ≡ 0
  pub low_second : slice_index words (low_word 1) ≡ 0
  pub high_second : slice_index words (high_word 1) ≡ greatest
  pub offers : (n : ℕ) → 1 ≤ n → n ≤ max_seats → slice_index words (offer_word k.capacity n) ≡ 0

-- the facts of the queue hold of them, with one seat that has nothing, and no entry
abbrev pub FreshWordsOpen : Type 0
FreshWordsOpen = (k : Limits) (words : List ℕ) → Fresh k words → ChunkTied k words (empty_post idle_chunk 0 ∷ []) []

-- the total of the front word is at most the greatest length of a history and the entries of one chunk
abbrev pub TotalsFit : Type 0
TotalsFit = (k : Limits) (s : Table ChunkView) (h : Holds chunk_rule k s)
    → (h.tied.shape.front.total ≤ history_limit + place_count) × (history_limit + place_count < total_limit)
