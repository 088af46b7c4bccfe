-- What the rule of a table says of the numbers that its seats drew, and of the words that stand for numbers.
use Rattle.std.specs.Prelude.{ℕ, ◌≡◌, nat_lt, if◌then◌else◌, List, [], sum_by, slice_index}
use mathlib.Core.Option.{some}
use lib.ListN.{get_elem?}
use Rattle.pq_numbers.specs.declared.draws.Draw.{Draw}
use Rattle.pq_numbers.specs.Draws.{times_drawn, drawn_in_all}

-- how a table's views V say which seats they stand for, and what these drew
pub record Kind (V : Type 0) : Type 0 where
  pub parts : V → ℕ  -- how many seats the view stands for: its own, and those that were joined into it
  pub draws : V → List Draw

-- The views stand for all seats together. The made word counts the numbers that they drew, and each number below it is
-- in one of their draws. A view that stands for no seat has drawn nothing.
pub record AreDrawn {V : Type 0} (k : Kind V) (seats made : ℕ) (views : List V) : Type 0 where
  pub parts : sum_by k.parts views ≡ seats
  pub counted : made ≡ sum_by (λ (v : V). drawn_in_all (k.draws v)) views
  pub drawn : (x : ℕ) → sum_by (λ (v : V). times_drawn x (k.draws v)) views ≡ (if nat_lt x made then 1 else 0)
  pub idle : (j : ℕ) (v : V) → get_elem? views j ≡ some v → k.parts v ≡ 0 → k.draws v ≡ []

-- the word of each number, which stands at this place, tells how often the views count the number
abbrev pub AreTold : {V : Type 0} → (ℕ → V → ℕ) → (ℕ → ℕ) → (ℕ → ℕ) → List ℕ → List V → Type 0
AreTold count tells place words views = (x : ℕ) → sum_by (count x) views ≡ tells (slice_index words (place x))
