-- What the word of a place says.
use Rattle.std.specs.Prelude.{◌≡◌, ℕ, zero, suc, ◌+◌, ◌/◌, ◌%◌, ◌==◌, ◌≤◌, List, slice_index}
use mathlib.Core.Bool.{cond}
use Rattle.pq_words.specs.declared.entries.Entry.{Entry}
use Rattle.pq_words.specs.declared.place_words.PlaceWord.{PlaceWord}
use Rattle.pq_words.specs.declared.place_words.PlaceWord.TheVariants.{Empty, Pending, In, Frozen}
use Rattle.pq_words.specs.Limits.{raw_limit}
use Rattle.pq_words.specs.Entries.{raw_of}
use Rattle.pq_words.specs.PlaceWords.{place_number, FitsPlaceWord}
use Rattle.pq_chunk.specs.Layout.{place_count, place_word}

-- the number of an entry is between these, both included
abbrev pub IsBetween : ℕ → ℕ → Entry → Type 0
IsBetween low high e = (low ≤ raw_of e) × (raw_of e ≤ high)

-- an entry that stands in the place is
abbrev pub IsBounded : ℕ → ℕ → PlaceWord → Type 0
IsBounded low high Empty = Unit {0}
IsBounded low high (Pending owner e) = IsBetween low high e
IsBounded low high (In e) = IsBetween low high e
IsBounded low high Frozen = Unit {0}

-- the word is that of a place of an insert chunk with these bounds
pub record IsPlace (low high word : ℕ) : Type 0 where
  pub place : PlaceWord
  pub fits : FitsPlaceWord place
  pub is : word ≡ place_number place
  pub bounded : IsBounded low high place

-- no insert writes there any more: the place is In or Frozen
abbrev pub IsSealedPlace : PlaceWord → Type 0
IsSealedPlace Empty = ⊥
IsSealedPlace (Pending owner e) = ⊥
IsSealedPlace (In e) = Unit {0}
IsSealedPlace Frozen = Unit {0}

pub record IsSealed (word : ℕ) : Type 0 where
  pub place : PlaceWord
  pub is : word ≡ place_number place
  pub sealed : IsSealedPlace place

-- what an entry that is In weighs, where f tells the weight of its number. Every other place weighs nothing
abbrev pub in_weight : (ℕ → ℕ) → ℕ → ℕ
in_weight f word = cond (word / raw_limit == 2) (f (word % raw_limit)) 0

-- the sum of the first n
unfoldable pub sum_to : (ℕ → ℕ) → ℕ → ℕ
sum_to g zero = 0
sum_to g (suc n) = sum_to g n + g n

-- the weights of the entries of a chunk that are In
abbrev pub chunk_weight : (ℕ → ℕ) → List ℕ → ℕ → ℕ
chunk_weight f words c = sum_to (λ i. in_weight f (slice_index words (place_word c i))) place_count
