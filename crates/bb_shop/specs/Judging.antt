-- What a verdict is found by: searches for the first operation that starts too early, and for the first two that
-- overlap.
use Rattle.std.specs.Prelude.{ℕ, ◌≡◌, ◌+◌, ◌-◌, ◌≤◌, ◌<◌, List, [], length, slice_index, slice_index_or, Option, Some}
use Rattle.std.specs.Prelude.{None}
use Rattle.std.specs.List.{AllByRecursion}
use Rattle.inst_text.specs.Limits.{max_total}
use Rattle.inst_text.specs.declared.shop.Operation.{Operation}
use Rattle.inst_text.specs.Shop.{JobShop, row_time}
use Rattle.bb_shop.specs.declared.booking.Booking.{Booking}
use Rattle.bb_shop.specs.declared.operation_id.OperationId.{OperationId}
use Rattle.bb_shop.specs.declared.operation_id.Pair.{Pair}
use Rattle.bb_shop.specs.Plans.{step_at, IsOperation, IsBefore}
use Rattle.bb_shop.specs.Verdicts.{IsEarly, Overlap, IsPairBefore}

-- k is what a search for the first number with P finds, or there is none
abbrev pub Finds : (ℕ → Type 0) → Option ℕ → Type 0
Finds P None = (k : ℕ) → P k → ⊥
Finds P (Some k) = P k × ((h : ℕ) → h < k → P h → ⊥)

-- the same of a search by job and step
abbrev pub FindsOperation : (ℕ → ℕ → Type 0) → Option OperationId → Type 0
FindsOperation P None = (j k : ℕ) → P j k → ⊥
FindsOperation P (Some p) = P p.job p.step × ((i h : ℕ) → IsBefore i h p.job p.step → P i h → ⊥)

-- the same of a search for two operations, by job and step of the one and then of the other
abbrev pub FindsPair : (ℕ → ℕ → ℕ → ℕ → Type 0) → Option Pair → Type 0
FindsPair P None = (i h j k : ℕ) → P i h j k → ⊥
FindsPair P (Some p) =
    P p.one.job p.one.step p.other.job p.other.step
    × ((a b c d : ℕ) → IsPairBefore a b c d p.one.job p.one.step p.other.job p.other.step → P a b c d → ⊥)

-- the row of start times of this job; past the last one, none
abbrev pub times_at : List (List ℕ) → ℕ → List ℕ
times_at starts j = slice_index_or starts j []

-- a row of operations with a start time for each, within the limits
pub record AreTimed (row : List Operation) (times : List ℕ) : Type 0 where
  pub count : length times ≡ length row
  pub limited : row_time row ≤ max_total
  pub early : AllByRecursion (λ (t : ℕ). t ≤ max_total) times

-- the operation of the row at step k starts before the end of the one before it
pub record IsEarlyIn (row : List Operation) (times : List ℕ) (k : ℕ) : Type 0 where
  pub some : 1 ≤ k
  pub inside : k < length row
  pub early : slice_index times k < slice_index times (k - 1) + (step_at row (k - 1)).time

-- it is an operation of the shop that starts too early
abbrev pub IsEarlyAt : JobShop → List (List ℕ) → ℕ → ℕ → Type 0
IsEarlyAt s starts j k = IsOperation s j k × IsEarly s starts j k

-- when an operation that starts at this time needs its machine
abbrev pub booked : Operation → ℕ → Booking
booked o start = record { machine = o.machine; start = start; end = start + o.time }

-- both need one machine, and each starts before the other ends
pub record Collide (a b : Booking) : Type 0 where
  pub machine : a.machine ≡ b.machine
  pub one : a.start < b.end
  pub other : b.start < a.end

-- the operation of the row at step k, one from this step on, overlaps with a booking
pub record OverlapsIn (booking : Booking) (row : List Operation) (times : List ℕ) (from k : ℕ) : Type 0 where
  pub later : from ≤ k
  pub inside : k < length row
  pub collide : Collide booking (booked (step_at row k) (slice_index times k))

-- two operations overlap on a machine, the one of this job
abbrev pub OverlapsFrom : JobShop → List (List ℕ) → ℕ → ℕ → ℕ → ℕ → ℕ → Type 0
OverlapsFrom s starts job i h j k = (i ≡ job) × Overlap s starts i h j k
