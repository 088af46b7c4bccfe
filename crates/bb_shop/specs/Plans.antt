-- Which start times of a shop's operations are feasible, and what they cost.
use Rattle.std.specs.Prelude.{ℕ, ◌≡◌, ◌+◌, ◌≤◌, ◌<◌, ◌⊎◌, List, [], ◌∷◌, length, max, slice_index_or}
use Rattle.std.specs.List.{AllByRecursion}
use Rattle.inst_text.specs.declared.shop.Operation.{Operation}
use Rattle.inst_text.specs.Shop.{JobShop}

-- the operation of a row at this step; past the last one, an operation of no time on machine 0
abbrev pub step_at : List Operation → ℕ → Operation
step_at row k = slice_index_or row k (record { machine = 0; time = 0 })

-- the row of this job; past the last one, no operations
abbrev pub row_at : List (List Operation) → ℕ → List Operation
row_at rows j = slice_index_or rows j []

-- the operation of job j at step k
abbrev pub operation_at : JobShop → ℕ → ℕ → Operation
operation_at s j k = step_at (row_at s.rows j) k

-- when the operation of job j at step k starts
abbrev pub start_at : List (List ℕ) → ℕ → ℕ → ℕ
start_at starts j k = slice_index_or (slice_index_or starts j []) k 0

-- when it ends
abbrev pub end_at : JobShop → List (List ℕ) → ℕ → ℕ → ℕ
end_at s starts j k = start_at starts j k + (operation_at s j k).time

-- job j has an operation at step k
abbrev pub IsOperation : JobShop → ℕ → ℕ → Type 0
IsOperation s j k = (j < length s.rows) × (k < s.machines)

-- the operation of job i at step h stands before that of job j at step k
abbrev pub IsBefore : ℕ → ℕ → ℕ → ℕ → Type 0
IsBefore i h j k = (i < j) ⊎ ((i ≡ j) × (h < k))

-- two operations of one machine, the second a later one by job and step
pub record ArePair (s : JobShop) (i h j k : ℕ) : Type 0 where
  pub one : IsOperation s i h
  pub other : IsOperation s j k
  pub later : IsBefore i h j k
  pub machine : (operation_at s i h).machine ≡ (operation_at s j k).machine

-- as many rows and times as operations
pub record AreShaped (s : JobShop) (starts : List (List ℕ)) : Type 0 where
  pub rows : length starts ≡ length s.rows
  pub times : AllByRecursion (λ (row : List ℕ). length row ≡ s.machines) starts

-- no operation starts before the end of the operation before it in its job
abbrev pub AreInOrder : JobShop → List (List ℕ) → Type 0
AreInOrder s starts = (j k : ℕ) → IsOperation s j (k + 1) → end_at s starts j k ≤ start_at starts j (k + 1)

-- of two operations of one machine one ends no later than the other starts
abbrev pub AreApart : JobShop → List (List ℕ) → Type 0
AreApart s starts = (i h j k : ℕ) → ArePair s i h j k
    → (end_at s starts i h ≤ start_at starts j k) ⊎ (end_at s starts j k ≤ start_at starts i h)

-- start times that can be kept
pub record IsFeasible (s : JobShop) (starts : List (List ℕ)) : Type 0 where
  pub shaped : AreShaped s starts
  pub ordered : AreInOrder s starts
  pub apart : AreApart s starts

-- the greatest end of a row of operations that start at these times
abbrev pub row_end : List Operation → List ℕ → ℕ
row_end [] ts = 0
row_end (o ∷ os) [] = 0
row_end (o ∷ os) (t ∷ ts) = max (t + o.time) (row_end os ts)

-- the greatest end of several rows
abbrev pub rows_end : List (List Operation) → List (List ℕ) → ℕ
rows_end [] ts = 0
rows_end (r ∷ rs) [] = 0
rows_end (r ∷ rs) (t ∷ ts) = max (row_end r t) (rows_end rs ts)

-- what start times cost: the makespan, which is the greatest end
abbrev pub makespan : JobShop → List (List ℕ) → ℕ
makespan s starts = rows_end s.rows starts

-- feasible start times that cost no more than any other
pub record IsCheapest (s : JobShop) (starts : List (List ℕ)) : Type 0 where
  pub feasible : IsFeasible s starts
  pub cheapest : (other : List (List ℕ)) → IsFeasible s other → makespan s starts ≤ makespan s other
