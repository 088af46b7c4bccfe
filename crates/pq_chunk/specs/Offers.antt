-- Offers: an insert whose entry belongs into the first chunk stores it as an offer. The builder places it and leaves a
-- letter with the place, or sends it back by the letter Back.
use Rattle.std.specs.Prelude.{◌≡◌, ◌≢◌, ◌⊎◌, ℕ, ◌+◌, ◌<◌, true, false, Some, List, [], Contains, slice_index}
use mathlib.Core.Option.{some}
use lib.ListN.{get_elem?}
use Rattle.pq_words.specs.Limits.{raw_limit}
use Rattle.pq_words.specs.declared.entries.Entry.{Entry}
use Rattle.pq_words.specs.Entries.{raw_of}
use Rattle.pq_model.specs.Limits.{max_seats}
use Rattle.pq_model.specs.History.{IsSeat}
use Rattle.pq_seats.specs.declared.views.Post.{Post}
use Rattle.pq_seats.specs.Letters.{back, letter_count, letter_sum}
use Rattle.pq_pool.specs.Layout.{builder_word}
use Rattle.pq_chunk.specs.declared.views.ChunkView.{ChunkView}
use Rattle.pq_chunk.specs.Layout.{offer_word}
use Rattle.pq_chunk.specs.Views.{is_offered}

-- the number of an offer of this entry. No offer is 0
abbrev pub offer_number : Entry → ℕ
offer_number e = raw_limit + raw_of e

module _ (capacity : ℕ) (words : List ℕ) (posts : List (Post ChunkView)) where
  abbrev pub offer_of : ℕ → ℕ
  offer_of n = slice_index words (offer_word capacity n)

  -- the seat n has stored no offer since it took its last letter: there is none, and no letter for it
  abbrev pub IsUnoffered : ℕ → Type 0
  IsUnoffered n = (offer_of n ≡ 0) × (letter_count n words posts ≡ 0)

  -- Its offer stands. Where the builder has accepted it, the builder owes the letter with the place, and clears the
  -- offer before it leaves the letter
  pub record IsStanding (n : ℕ) (e : Entry) : Type 0 where
    pub offer : offer_of n ≡ offer_number e
    pub unwritten : slice_index words n ≡ 0
    pub not_back : letter_sum n words posts ≢ back

  -- it was cleared, and there is a letter
  abbrev pub IsAnswered : ℕ → Type 0
  IsAnswered n = (offer_of n ≡ 0) × (letter_count n words posts ≡ 1)

  -- of a seat with a number: its insert is in flight while it is offered
  pub record IsOffer (p : Post ChunkView) : Type 0 where
    pub quiet : is_offered p.own.stage ≡ false → IsUnoffered p.number
    pub offers : is_offered p.own.stage ≡ true
        → (e : Entry) × (p.flight ≡ Some e) × (IsStanding p.number e ⊎ IsAnswered p.number)

  -- what the builder has read as an offer stands, and has no letter yet
  pub record IsRead (x : ℕ × Entry) : Type 0 where
    pub seat : IsSeat max_seats x.0
    pub offer : offer_of x.0 ≡ offer_number x.1
    pub unlettered : letter_count x.0 words posts ≡ 0

  pub record OfferFacts : Type 0 where
    pub each : (j : ℕ) (p : Post ChunkView) → get_elem? posts j ≡ some p → 0 < p.number → IsOffer p
    -- each offer is of a seat
    pub owner : (n : ℕ) → IsSeat max_seats n → offer_of n ≢ 0
        → (j : ℕ) × (p : Post ChunkView) × (get_elem? posts j ≡ some p) × (p.number ≡ n)
    -- the builder alone owes letters
    pub unowed : (j : ℕ) (p : Post ChunkView) → get_elem? posts j ≡ some p → ¬ Contains p.locks builder_word
        → p.owed ≡ []
    pub read : (j : ℕ) (p : Post ChunkView) → get_elem? posts j ≡ some p → (x : ℕ × Entry)
        → Contains p.own.builder.offers x → IsRead x
