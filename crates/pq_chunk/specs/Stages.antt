-- The places and counts of the insert chunks, and where each insert and each removal stands.
use Rattle.std.specs.Prelude.{◌≡◌, ◌≢◌, ◌⊎◌, ℕ, ◌+◌, ◌<◌, ◌≤◌, Option, Some, None, List, Contains, slice_index}
use Rattle.std.specs.List.{sum_by}
use mathlib.Core.Option.{some}
use lib.ListN.{get_elem?}
use Rattle.pq_words.specs.declared.entries.Entry.{Entry}
use Rattle.pq_words.specs.declared.place_words.PlaceWord.TheVariants.{Empty, Pending, In, Frozen}
use Rattle.pq_words.specs.Entries.{raw_of}
use Rattle.pq_words.specs.PlaceWords.{place_number}
use Rattle.pq_words.specs.TaggedWords.{IsOwner}
use Rattle.pq_seats.specs.declared.views.Post.{Post}
use Rattle.pq_pool.specs.declared.views.PoolState.{PoolState}
use Rattle.pq_pool.specs.declared.views.PoolView.{PoolView}
use Rattle.pq_pool.specs.Layout.{next_word}
use Rattle.pq_pool.specs.States.{IsInUse}
use Rattle.pq_chunk.specs.declared.views.ChunkView.{ChunkView}
use Rattle.pq_chunk.specs.declared.views.Stage.{Stage}
use Rattle.pq_chunk.specs.declared.views.Stage.TheVariants.{Idle, AtFirst, Past, At, Within, Armed, Drawn, Waiting, Marked, Offered}
use Rattle.pq_chunk.specs.declared.views.Reading.{Reading}
use Rattle.pq_chunk.specs.declared.views.Reading.TheVariants.{Nothing, Reads}
use Rattle.pq_chunk.specs.Layout.{place_count, count_limit, place_word, count_word, low_word, high_word}
use Rattle.pq_chunk.specs.Places.{IsPlace}
use Rattle.pq_chunk.specs.Views.{IsOn, armed_for}
use Rattle.pq_chunk.specs.Chain.{Replaced, IsInsert, IsFirst}

module _ (first : ℕ) (chunks : List ℕ) (old : Replaced) (words : List ℕ) where
  -- a seat whose insert of e is in flight has come to the insert chunk, and e is not below it; and not above it
  pub record IsCome (v : PoolView) (flight : Option Entry) (c : ℕ) (e : Entry) : Type 0 where
    pub flies : flight ≡ Some e
    pub on : IsOn v c
    pub insert : IsInsert chunks old c
    pub low : slice_index words (low_word c) ≤ raw_of e

  abbrev pub IsWithin : PoolView → Option Entry → ℕ → Entry → Type 0
  IsWithin v flight c e = IsCome v flight c e × (raw_of e ≤ slice_index words (high_word c))

  -- it has passed the chunk, which links to another
  pub record IsPast (v : PoolView) (flight : Option Entry) (c : ℕ) (e : Entry) : Type 0 where
    pub flies : flight ≡ Some e
    pub on : IsOn v c
    pub reached : IsFirst first old c ⊎ IsInsert chunks old c
    pub high : slice_index words (high_word c) ≤ raw_of e
    pub leads : slice_index words (next_word c) ≢ 0

  -- It has drawn the place, which is Empty at a chunk of the chain, or was frozen
  pub record IsDrawn (v : PoolView) (flight : Option Entry) (c i : ℕ) (e : Entry) : Type 0 where
    pub within : IsWithin v flight c e
    pub place : i < place_count
    pub chained : slice_index words (place_word c i) ≡ place_number Empty → Contains chunks c

  -- its entry is Pending at the place, and the chunk is in the chain
  pub record IsWaiting (number c i : ℕ) (e : Entry) : Type 0 where
    pub owner : IsOwner number
    pub place : i < place_count
    pub pending : slice_index words (place_word c i) ≡ place_number (Pending number e)
    pub chained : Contains chunks c

  -- what holds of a seat with this number whose insert has come so far. What an offer means stands with the offers
  abbrev pub IsStage : PoolView → ℕ → Option Entry → Stage → Type 0
  IsStage v number flight Idle = Unit {0}
  IsStage v number flight (AtFirst c) = IsOn v c × IsFirst first old c
  IsStage v number flight (Past c e) = IsPast v flight c e
  IsStage v number flight (At c e) = IsCome v flight c e
  IsStage v number flight (Within c e) = IsWithin v flight c e
  IsStage v number flight (Armed c e) = IsWithin v flight c e
  IsStage v number flight (Drawn c i e) = IsDrawn v flight c i e
  IsStage v number flight (Waiting c i e) = (flight ≡ Some e) × IsWaiting number c i e
  IsStage v number flight (Marked c i e) = (flight ≡ None) × IsWaiting number c i e
  IsStage v number flight Offered = Unit {0}

  -- what a removal has drawn stands in its place until the pin ends, though the chunk may have left the chain
  abbrev pub IsReading : PoolView → Reading → Type 0
  IsReading v Nothing = Unit {0}
  IsReading v (Reads c i e) =
      IsOn v c × (i < place_count) × (slice_index words (place_word c i) ≡ place_number (In e))

  pub record IsStaged (p : Post ChunkView) : Type 0 where
    pub stage : IsStage p.own.pool p.number p.flight p.own.stage
    pub reading : IsReading p.own.pool p.own.reading

-- some seat has drawn the place; some seat with this number has its entry there; some view names the chunk as the one
-- that is being frozen
pub record HasDrawn (posts : List (Post ChunkView)) (c i : ℕ) : Type 0 where
  pub id : ℕ
  pub post : Post ChunkView
  pub stands : get_elem? posts id ≡ some post
  pub entry : Entry
  pub drawn : post.own.stage ≡ Drawn c i entry

pub record HasPut (posts : List (Post ChunkView)) (number c i : ℕ) (e : Entry) : Type 0 where
  pub id : ℕ
  pub post : Post ChunkView
  pub stands : get_elem? posts id ≡ some post
  pub named : post.number ≡ number
  pub put : (post.own.stage ≡ Waiting c i e) ⊎ (post.own.stage ≡ Marked c i e)

pub record IsBeingFrozen (posts : List (Post ChunkView)) (c : ℕ) : Type 0 where
  pub id : ℕ
  pub post : Post ChunkView
  pub stands : get_elem? posts id ≡ some post
  pub freezes : post.own.builder.freezing ≡ Some c

pub record PlaceFacts (counted : PoolState) (first : ℕ) (chunks : List ℕ) (old : Replaced) (words : List ℕ)
    (posts : List (Post ChunkView)) : Type 0 where
  -- Each place of an insert chunk of the chain is Empty, Frozen, or holds an entry between the chunk's bounds
  pub places : (c : ℕ) → Contains chunks c → (i : ℕ) → i < place_count
      → IsPlace (slice_index words (low_word c)) (slice_index words (high_word c)) (slice_index words (place_word c i))
  -- one that is Empty below the count was drawn, and will be filled or found frozen
  pub drawn : (c : ℕ) → Contains chunks c → (i : ℕ) → i < place_count → i < slice_index words (count_word c)
      → slice_index words (place_word c i) ≡ place_number Empty → HasDrawn posts c i
  -- one that is Pending is its owner's, and will be In
  pub owned : (c : ℕ) → Contains chunks c → (i : ℕ) → i < place_count → (number : ℕ) (e : Entry) → IsOwner number
      → slice_index words (place_word c i) ≡ place_number (Pending number e) → HasPut posts number c i e
  -- and one that is Frozen is of the one chunk that the builder freezes, which then leaves the chain
  pub thawed : (c : ℕ) → Contains chunks c → (i : ℕ) → i < place_count
      → slice_index words (place_word c i) ≡ place_number Frozen → IsBeingFrozen posts c
  -- each armed seat may add 1 to the count, which is at most 64 where it arms
  pub counts : (c : ℕ) → IsInUse counted c
      → slice_index words (count_word c) + sum_by (armed_for c) posts ≤ count_limit
  pub each : (j : ℕ) (p : Post ChunkView) → get_elem? posts j ≡ some p → IsStaged first chunks old words p
