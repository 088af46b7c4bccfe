-- The letters: who places the mark of another seat's insert leaves its owner a word that says where.
use Rattle.std.specs.Prelude.{ℕ, ◌+◌, ◌==◌, List, [], ◌∷◌, slice_index, min}
use Rattle.std.specs.List.{count_by, sum_by}
use mathlib.Core.Bool.{cond}
use Rattle.pq_words.specs.declared.letters.Letter.TheVariants.{Back}
use Rattle.pq_words.specs.Letters.{letter_number}
use Rattle.pq_seats.specs.declared.views.Post.{Post}

-- the word of the letter that sends an offer back. Each other letter is the place of a mark plus 1
abbrev pub back : ℕ
back = letter_number Back

-- how many letters the list has for a seat, and what they add up to
abbrev pub owed_count : ℕ → List (ℕ × ℕ) → ℕ
owed_count n owed = count_by (λ (x : ℕ × ℕ). x.0 == n) owed

abbrev pub owed_sum : ℕ → List (ℕ × ℕ) → ℕ
owed_sum n owed = sum_by (λ (x : ℕ × ℕ). cond (x.0 == n) x.1 0) owed

-- the letters for others than this seat
abbrev pub without : ℕ → List (ℕ × ℕ) → List (ℕ × ℕ)
without n [] = []
without n (x ∷ xs) = cond (x.0 == n) (without n xs) (x ∷ without n xs)

module _ {O : Type 0} where
  -- how many letters there are for a seat: in its word, which is that of its number, or owed to it
  abbrev pub letter_count : ℕ → List ℕ → List (Post O) → ℕ
  letter_count n words posts = min (slice_index words n) 1 + sum_by (λ (p : Post O). owed_count n p.owed) posts

  -- and what they add up to
  abbrev pub letter_sum : ℕ → List ℕ → List (Post O) → ℕ
  letter_sum n words posts = slice_index words n + sum_by (λ (p : Post O). owed_sum n p.owed) posts
