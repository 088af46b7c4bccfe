-- Sums over the first items of an order.
use Rattle.std.specs.Prelude.{ℕ, ◌≡◌, ◌+◌, ◌*◌, ◌≤◌, List, length, take, slice_index}
use Rattle.inst_text.specs.Limits.{max_items, max_weight}

-- what all items weigh at most together
abbrev pub weight_sum_limit : ℕ
weight_sum_limit = max_items * max_weight

-- for each k up to their number, what the first k of these numbers measure together
pub record AreSums (measure : List ℕ → ℕ) (numbers sums : List ℕ) : Type 0 where
  pub count : length sums ≡ length numbers + 1
  pub each : (k : ℕ) → k ≤ length numbers → slice_index sums k ≡ measure (take k numbers)
