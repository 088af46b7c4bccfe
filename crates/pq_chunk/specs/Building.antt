-- What the builder's view knows of words that only the builder changes.
use Rattle.std.specs.Prelude.{◌≡◌, ◌⊎◌, ℕ, ◌<◌, List, Contains, slice_index}
use mathlib.Core.Option.{some}
use lib.ListN.{get_elem?}
use Rattle.pq_seats.specs.declared.views.Post.{Post}
use Rattle.pq_pool.specs.declared.views.PoolState.{PoolState}
use Rattle.pq_pool.specs.Layout.{next_word}
use Rattle.pq_pool.specs.States.{IsBuilt}
use Rattle.pq_chunk.specs.declared.views.ChunkView.{ChunkView}
use Rattle.pq_chunk.specs.Layout.{place_count, place_word, count_word, low_word, high_word}
use Rattle.pq_chunk.specs.Places.{IsSealed}
use Rattle.pq_chunk.specs.Chain.{Replaced}

-- no other seat comes to the chunk: it is being built, or it is live and was never in the chain since
abbrev pub IsNew : PoolState → Replaced → List ℕ → ℕ → Type 0
IsNew counted old outside c = IsBuilt counted c
    ⊎ (Contains outside c × ((¬ Contains old.inserts c) × (¬ Contains old.firsts c)))

-- The word i, which is x, is one that only the builder changes: a link or a bound of a chunk, a place that is In or
-- Frozen, or any place or count of a new chunk
abbrev pub IsBound : ℕ → ℕ → Type 0
IsBound c i = (i ≡ next_word c) ⊎ ((i ≡ low_word c) ⊎ (i ≡ high_word c))

abbrev pub IsFilled : ℕ → ℕ → ℕ → Type 0
IsFilled c i x = (n : ℕ) × (n < place_count) × (i ≡ place_word c n) × IsSealed x

abbrev pub IsOpen : ℕ → ℕ → Type 0
IsOpen c i = (i ≡ count_word c) ⊎ ((n : ℕ) × (n < place_count) × (i ≡ place_word c n))

pub record IsNote (chunks : ℕ) (counted : PoolState) (old : Replaced) (outside : List ℕ) (words : List ℕ) (i x : ℕ)
    : Type 0 where
  pub value : slice_index words i ≡ x
  pub chunk : ℕ
  pub within : chunk < chunks
  pub steady : IsBound chunk i ⊎ (IsFilled chunk i x ⊎ (IsNew counted old outside chunk × IsOpen chunk i))

-- each note is true
pub record BuilderFacts (chunks : ℕ) (counted : PoolState) (old : Replaced) (words : List ℕ)
    (posts : List (Post ChunkView)) : Type 0 where
  pub notes : (j : ℕ) (p : Post ChunkView) → get_elem? posts j ≡ some p → (x : ℕ × ℕ) → Contains p.own.builder.notes x
      → IsNote chunks counted old p.own.builder.outside words x.0 x.1
