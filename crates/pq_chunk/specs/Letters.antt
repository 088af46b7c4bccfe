-- How many letters tell a place: such an insert was placed by another seat, and its owner does not know yet.
use Rattle.std.specs.Prelude.{ℕ, suc, ◌+◌, ◌==◌, List, slice_index}
use Rattle.std.specs.List.{sum_by}
use mathlib.Core.Bool.{cond}
use Rattle.pq_model.specs.Limits.{max_seats}
use Rattle.pq_seats.specs.declared.views.Post.{Post}
use Rattle.pq_seats.specs.Letters.{back}
use Rattle.pq_chunk.specs.declared.views.ChunkView.{ChunkView}
use Rattle.pq_chunk.specs.Places.{sum_to}

-- 1 where the word of the letter is a place plus 1, and not 0 or Back
abbrev pub tells : ℕ → ℕ
tells word = cond (word == 0) 0 (cond (word == back) 0 1)

-- among the letters that were left, and among those that the seat owes
abbrev pub told_words : List ℕ → ℕ
told_words words = sum_to (λ n. tells (slice_index words (suc n))) max_seats

abbrev pub told_by : Post ChunkView → ℕ
told_by p = sum_by (λ (x : ℕ × ℕ). tells x.1) p.owed

abbrev pub told : List ℕ → List (Post ChunkView) → ℕ
told words posts = told_words words + sum_by told_by posts
