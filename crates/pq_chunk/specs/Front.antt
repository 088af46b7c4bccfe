-- The front word: how long the history is, how much room is taken, and who may draw from the first chunk.
use Rattle.std.specs.Prelude.{◌≡◌, ℕ, ◌+◌, ◌≤◌, List, slice_index}
use Rattle.std.specs.List.{sum_by}
use Rattle.pq_words.specs.Limits.{max_claimed}
use Rattle.pq_words.specs.declared.fronts.Front.{Front}
use Rattle.pq_words.specs.Fronts.{FitsFront, front_number, here, used_of}
use Rattle.pq_seats.specs.declared.views.Limits.{Limits}
use Rattle.pq_seats.specs.declared.views.Post.{Post}
use Rattle.pq_chunk.specs.declared.views.ChunkView.{ChunkView}
use Rattle.pq_chunk.specs.Views.{claim_of, armed_of}
use Rattle.pq_chunk.specs.Letters.{told}

-- The front word is that of f, and the multiset has this size
pub record FrontFacts (k : Limits) (f : Front) (size : ℕ) (words : List ℕ) (posts : List (Post ChunkView))
    : Type 0 where
  pub packed : slice_index words 0 ≡ front_number f
  pub fits : FitsFront f
  -- the total is no less than the entries left in the first chunk, so the length of the history is the rest
  pub enough : here f ≤ f.total
  -- What is used is the entries and the claims whose insert is not placed. An insert that another seat has placed is an
  -- entry, and its claim stands until its owner takes the letter
  pub used : used_of f + told words posts ≡ size + sum_by claim_of posts
  pub bound : used_of f ≤ k.capacity
  pub capacity : k.capacity ≤ max_claimed
  -- each armed seat may subtract 1
  pub armed : sum_by armed_of posts ≤ f.remaining
