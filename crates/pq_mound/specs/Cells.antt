-- Who has which cell.
use Rattle.std.specs.Prelude.{◌≡◌, ℕ, ◌+◌, ◌==◌, nat_lt, if◌then◌else◌, List, count_by}

-- how often a number is among these
abbrev pub times : ℕ → List ℕ → ℕ
times k ns = count_by (λ (n : ℕ). n == k) ns

-- Each cell is in one list, free, or held by one seat: the cells are numbered from 0, and there are as many as the
-- capacity. Each of them is once among those in lists, the free ones and those that seats hold, and no other is.
pub record IsDealt (capacity : ℕ) (listed free held : List ℕ) : Type 0 where
  pub once : (k : ℕ) → times k listed + times k free + times k held ≡ (if nat_lt k capacity then 1 else 0)
