-- What the tasks of a machine take at least, by thresholds of heads and tails.
use Rattle.std.specs.Prelude.{ℕ, nat_le, if◌then◌else◌, List, [], ◌∷◌, map}
use Rattle.bb_shop.specs.Bounds.{Load, Idle, Busy, joined, machine_bound, greatest}
use Rattle.bb_onemach.specs.declared.task.Task.{Task}

-- what a task asks of the machine where its head is at least h and its tail at least t
abbrev pub asked : ℕ → ℕ → Task → Load
asked h t x = if nat_le h x.head then (if nat_le t x.tail then Busy x.head x.time x.tail else Idle) else Idle

-- what the tasks ask whose heads are at least h and whose tails are at least t
unfoldable pub load_above : ℕ → ℕ → List Task → Load
load_above h t [] = Idle
load_above h t (x ∷ xs) = joined (asked h t x) (load_above h t xs)

-- the least head, the sum of the times and the least tail of these tasks, and 0 where there is none
abbrev pub threshold_bound : List Task → ℕ → ℕ → ℕ
threshold_bound xs h t = machine_bound (load_above h t xs)

-- the greatest of them over the tails of the tasks
abbrev pub bound_above : List Task → ℕ → ℕ
bound_above xs h = greatest (map (λ (y : Task). threshold_bound xs h y.tail) xs)

-- the greatest of them over the heads and the tails of the tasks
abbrev pub one_machine_bound : List Task → ℕ
one_machine_bound xs = greatest (map (λ (x : Task). bound_above xs x.head) xs)
