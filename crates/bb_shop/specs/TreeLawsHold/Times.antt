-- Times of operations, of rows and of parts of rows.
use Rattle.std.proofs.Common.{ℕ, zero, suc, ◌≤◌, List, [], ◌∷◌, drop, arith}
use Rattle.inst_text.specs.declared.shop.Operation.{Operation}
use Rattle.inst_text.specs.Shop.{row_time, rows_time}
use Rattle.bb_shop.specs.Plans.{step_at, row_at}

-- an operation takes no longer than its row, and a row no longer than all rows
pub step_time-le : (row : List Operation) (k : ℕ) → (step_at row k).time ≤ row_time row
step_time-le [] zero = omega arith
step_time-le [] (suc k) = omega arith
step_time-le (o ∷ os) zero = omega arith
step_time-le (o ∷ os) (suc k) = omega (arith, step_time-le os k)

pub row_time-le : (rows : List (List Operation)) (j : ℕ) → row_time (row_at rows j) ≤ rows_time rows
row_time-le [] zero = omega arith
row_time-le [] (suc j) = omega arith
row_time-le (r ∷ rs) zero = omega arith
row_time-le (r ∷ rs) (suc j) = omega (arith, row_time-le rs j)

-- nor does a part of a row
pub row_time-drop : (k : ℕ) (row : List Operation) → row_time (drop k row) ≤ row_time row
row_time-drop zero row = omega arith
row_time-drop (suc k) [] = omega arith
row_time-drop (suc k) (o ∷ os) = omega (arith, row_time-drop k os)
