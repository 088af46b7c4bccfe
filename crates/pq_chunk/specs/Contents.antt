-- What the words say that the multiset is.
use Rattle.std.specs.Prelude.{◌≡◌, ℕ, ◌+◌, ◌≤◌, List, [], ◌∷◌, ◌++◌, length, All, slice_index}
use Rattle.std.specs.List.{sum_by}
use Rattle.pq_words.specs.declared.entries.Entry.{Entry}
use Rattle.pq_words.specs.declared.place_words.PlaceWord.TheVariants.{In}
use Rattle.pq_words.specs.Entries.{raw_of}
use Rattle.pq_words.specs.PlaceWords.{place_number}
use Rattle.pq_seats.specs.declared.views.Post.{Post}
use Rattle.pq_chunk.specs.declared.views.ChunkView.{ChunkView}
use Rattle.pq_chunk.specs.Layout.{place_word, high_word}
use Rattle.pq_chunk.specs.Places.{chunk_weight}
use Rattle.pq_chunk.specs.Views.{marked_weight}

-- these stand in the chunk, the first of them last
abbrev pub Falls : List ℕ → ℕ → List Entry → Type 0
Falls words c [] = Unit {0}
Falls words c (e ∷ es) = (slice_index words (place_word c (length es)) ≡ place_number (In e)) × Falls words c es

-- M is the entries left in the first chunk, which are the least, and those of the insert chunks of the chain: what is In
-- there, and what is Pending where the owner's mark is made. That the latter are the same entries, each as often, is
-- said by their weights, whatever each number weighs
pub record ContentFacts (m firsts rest : List Entry) (left first : ℕ) (chunks : List ℕ) (words : List ℕ)
    (posts : List (Post ChunkView)) : Type 0 where
  pub splits : m ≡ firsts ++ rest
  pub here : length firsts ≡ left
  pub falls : Falls words first firsts
  pub below : All (λ (e : Entry). raw_of e ≤ slice_index words (high_word first)) firsts
  pub weights : (f : ℕ → ℕ) → sum_by (λ (e : Entry). f (raw_of e)) rest
      ≡ sum_by (chunk_weight f words) chunks + sum_by (marked_weight f) posts
