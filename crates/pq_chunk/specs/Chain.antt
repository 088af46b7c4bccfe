-- The chain: the first chunk, then the insert chunks, joined by their next words; and the chunks that have left it.
use Rattle.std.specs.Prelude.{◌≡◌, ◌≢◌, ◌⊎◌, ℕ, suc, ◌+◌, ◌<◌, ◌≤◌, ◌==◌}
use Rattle.std.specs.Prelude.{List, [], ◌∷◌, length, Contains, slice_index}
use Rattle.std.specs.List.{sum_by}
use mathlib.Core.Bool.{cond}
use mathlib.Core.Option.{some}
use lib.ListN.{get_elem?}
use Rattle.pq_seats.specs.declared.views.Post.{Post}
use Rattle.pq_pool.specs.declared.views.PoolState.{PoolState}
use Rattle.pq_pool.specs.Layout.{builder_word, next_word}
use Rattle.pq_pool.specs.States.{state_of, live_state, IsInUse}
use Rattle.pq_chunk.specs.declared.views.ChunkView.{ChunkView}
use Rattle.pq_chunk.specs.Layout.{place_count, greatest, place_word, low_word, high_word}
use Rattle.pq_chunk.specs.Places.{IsSealed, chunk_weight}
use Rattle.pq_chunk.specs.Views.{idle_builder, times, outside_of}

-- From this chunk the list follows, by the next words. The low of each is the high of the one before it, and the high
-- of the last is the greatest
abbrev pub Joined : List ℕ → ℕ → List ℕ → Type 0
Joined words c [] = (slice_index words (next_word c) ≡ 0) × (slice_index words (high_word c) ≡ greatest)
Joined words c (b ∷ bs) = (slice_index words (next_word c) ≡ suc b)
    × (slice_index words (low_word b) ≡ slice_index words (high_word c))
    × (slice_index words (low_word b) ≤ slice_index words (high_word b)) × Joined words b bs

-- Chunks that have left the chain: insert chunks, and first chunks. What is said of them counts while they are in use
pub record Replaced : Type 0 where
  pub inserts : List ℕ
  pub firsts : List ℕ

-- an insert comes to the chunk by links alone; a walk begins there
abbrev pub IsInsert : List ℕ → Replaced → ℕ → Type 0
IsInsert chunks old c = Contains chunks c ⊎ Contains old.inserts c

abbrev pub IsFirst : ℕ → Replaced → ℕ → Type 0
IsFirst first old c = (c ≡ first) ⊎ Contains old.firsts c

-- the chunk links to an insert chunk, whose low is its high
pub record Leads (chunks : List ℕ) (old : Replaced) (words : List ℕ) (c : ℕ) : Type 0 where
  pub next : ℕ
  pub links : slice_index words (next_word c) ≡ suc next
  pub insert : IsInsert chunks old next
  pub meets : slice_index words (low_word next) ≡ slice_index words (high_word c)

-- it links to none, and has room for the greatest entry
abbrev pub Ends : List ℕ → ℕ → Type 0
Ends words c = (slice_index words (next_word c) ≡ 0) × (slice_index words (high_word c) ≡ greatest)

-- 1 where the chunk counts as live
abbrev pub live_one : PoolState → ℕ → ℕ
live_one b c = cond (state_of b c == live_state) 1 0

pub record ChainFacts (counted : PoolState) (first : ℕ) (chunks : List ℕ) (old : Replaced) (words : List ℕ)
    (posts : List (Post ChunkView)) : Type 0 where
  -- the chain has an insert chunk at least, and each that is not the last has at least 32 entries
  pub joined : Joined words first chunks
  pub one : 0 < length chunks
  pub filled : (c : ℕ) → Contains chunks c → slice_index words (next_word c) ≢ 0
      → 32 ≤ chunk_weight (λ _. 1) words c
  -- Each live chunk is once in the chain, or once among those that the builder's view names outside it. No other chunk
  -- is
  pub lives : (c : ℕ) → times c (first ∷ chunks) + sum_by (outside_of c) posts ≡ live_one counted c
  pub idle : (j : ℕ) (p : Post ChunkView) → get_elem? posts j ≡ some p → ¬ Contains p.locks builder_word
      → p.own.builder ≡ idle_builder
  -- An insert chunk that has left the chain is sealed. Links lead on, so that a walk which began before ends in the
  -- chain too
  pub sealed : (c : ℕ) → Contains old.inserts c → IsInUse counted c
      → (i : ℕ) → i < place_count → IsSealed (slice_index words (place_word c i))
  pub inserts_lead : (c : ℕ) → Contains old.inserts c → IsInUse counted c → Leads chunks old words c ⊎ Ends words c
  pub firsts_lead : (c : ℕ) → Contains old.firsts c → IsInUse counted c → Leads chunks old words c
