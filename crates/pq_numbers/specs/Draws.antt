-- Draws of numbers, how often a number was drawn, and how often a number is in a list.
use Rattle.std.specs.Prelude.{ℕ, ◌≡◌, ◌+◌, ◌<◌, ◌≤◌, ◌==◌, ◌&&◌, nat_lt, nat_le, if◌then◌else◌, Bool}
use Rattle.std.specs.Prelude.{List, Contains, count_by, sum_by, slice_get, Some}
use Rattle.pq_numbers.specs.declared.draws.Draw.{Draw}

abbrev pub draw_of : ℕ → ℕ → Bool → Draw
draw_of first count within = record { first = first; count = count; within = within }

-- the number is one of the draw's
abbrev pub IsIn : ℕ → Draw → Type 0
IsIn number d = (d.first ≤ number) × (number < d.first + d.count)

-- in how many of the draws this number is
abbrev pub times_drawn : ℕ → List Draw → ℕ
times_drawn x = count_by (λ (d : Draw). nat_le d.first x && nat_lt x (d.first + d.count))

-- how many numbers were drawn in all
abbrev pub drawn_in_all : List Draw → ℕ
drawn_in_all = sum_by (λ (d : Draw). d.count)

-- the numbers below the sum of the counts are in one draw each, and no others are in any
abbrev pub AreTiled : List Draw → Type 0
AreTiled draws = (x : ℕ) → times_drawn x draws ≡ (if nat_lt x (drawn_in_all draws) then 1 else 0)

-- how many of the list have this number
abbrev pub times_of : {A : Type 0} → (A → ℕ) → ℕ → List A → ℕ
times_of {A} number x = count_by (λ (a : A). number a == x)

-- where draws are tiled, no number is in two of them
abbrev pub DrawsAreApart : Type 0
DrawsAreApart = (draws : List Draw) (i j number : ℕ) (d e : Draw) → AreTiled draws
    → slice_get draws i ≡ Some d → slice_get draws j ≡ Some e → IsIn number d → IsIn number e → i ≡ j

-- and each number below the sum of the counts is in one
abbrev pub DrawsCover : Type 0
DrawsCover = (draws : List Draw) (number : ℕ) → AreTiled draws → number < drawn_in_all draws
    → (d : Draw) × Contains draws d × IsIn number d
