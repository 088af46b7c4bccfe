-- The table of a shop's operations.
use Rattle.std.proofs.Common.{◌≡◌, ℕ, zero, suc, ◌+◌, ◌-◌, ◌*◌, ◌<◌, ◌≤◌, List, [], ◌∷◌, ◌++◌, refl, sym, ap, ◌∙◌}
use Rattle.std.proofs.Common.{length, get_or, take, drop, arith}
use Rattle.std.specs.Prelude.{min}
use Rattle.std.specs.List.{AllByRecursion}
use Rattle.std.proofs.lemmas.List.{append_assoc, length-append, length-drop, drop-drop, drop_at, drop-append-le}
use Rattle.std.proofs.lemmas.List.{drop_min, take_at, get_or-drop, get_or_append_left}
use Rattle.std.proofs.lemmas.List.Elements.{All-from_recursion}
use Rattle.std.proofs.Math.Nat.{mul-le-mul_left}
use Rattle.inst_text.specs.declared.shop.Operation.{Operation}
use Rattle.inst_text.specs.Shop.{JobShop, IsJobShop, row_time, rows_time}
use Rattle.bb_shop.specs.declared.prepared_operation.PreparedOperation.{PreparedOperation}
use Rattle.bb_shop.specs.Plans.{row_at, operation_at}
use Rattle.bb_shop.specs.Tables.{prepared_row, prepared_rows, operations_in, HaveTails, IsTable}
use Rattle.bb_shop.specs.TreeLawsHold.States.{row-length}

pub length-prepared_row : (row : List Operation) → length (prepared_row row) ≡ length row
length-prepared_row [] = refl
length-prepared_row (o ∷ os) = omega (arith, length-prepared_row os)

pub drop-prepared_row : (k : ℕ) (row : List Operation) → drop k (prepared_row row) ≡ prepared_row (drop k row)
drop-prepared_row zero row = refl
drop-prepared_row (suc k) [] = refl
drop-prepared_row (suc k) (o ∷ os) = drop-prepared_row k os

pub operations_in-prepared_row : (row : List Operation) → operations_in (prepared_row row) ≡ row
operations_in-prepared_row [] = refl
operations_in-prepared_row (o ∷ os) = ap (λ xs. o ∷ xs) (operations_in-prepared_row os)

pub HaveTails-prepared_row : (row : List Operation) → HaveTails (prepared_row row)
HaveTails-prepared_row [] = tt
HaveTails-prepared_row (o ∷ os) = (ap row_time (sym (operations_in-prepared_row os)), HaveTails-prepared_row os)

pub all-prepared_row : (n : ℕ) (row : List Operation) → AllByRecursion (λ (o : Operation). o.machine < n) row
    → AllByRecursion (λ (p : PreparedOperation). p.operation.machine < n) (prepared_row row)
all-prepared_row n [] named = tt
all-prepared_row n (o ∷ os) named = (named.0, all-prepared_row n os named.1)

-- one row after another
pub prepared_rows-more : (table : List PreparedOperation) (row : List Operation) (rows : List (List Operation))
    → table ++ prepared_rows (row ∷ rows) ≡ (table ++ prepared_row row) ++ prepared_rows rows
prepared_rows-more table row rows = sym (append_assoc table (prepared_row row) (prepared_rows rows))

pub length-prepared_rows : (m : ℕ) (rows : List (List Operation))
    → AllByRecursion (λ (row : List Operation). length row ≡ m) rows → length (prepared_rows rows) ≡ length rows * m
length-prepared_rows m [] steps = omega arith
length-prepared_rows m (row ∷ rows) steps =
    omega (
      arith,
      length-append (prepared_row row)
          (prepared_rows rows),
      length-prepared_row row,
      steps.0,
      length-prepared_rows m rows steps.1,
    )

-- from the first operation of a job on
from_job : (m n : ℕ) (rows : List (List Operation)) (j : ℕ)
    → AllByRecursion (λ (row : List Operation). length row ≡ m) rows → j < length rows → n ≡ j * m
    → (rest : List PreparedOperation) × (drop n (prepared_rows rows) ≡ prepared_row (row_at rows j) ++ rest)
from_job m n [] j steps lt is = absurd (omega arith)
from_job m n (row ∷ rows) zero steps lt is =
    let none : n ≡ 0 = omega (arith, is) in
    (prepared_rows rows, ap (λ k. drop k (prepared_rows (row ∷ rows))) none)
from_job m n (row ∷ rows) (suc j) steps lt is =
    let after = from_job m (j * m) rows j steps.1 (omega arith) refl in
    let split : n ≡ m + j * m = omega (arith, is) in
    let length_is : length (prepared_row row) ≡ m = length-prepared_row row ∙ steps.0 in (
      after.0,
      ap (λ k. drop k (prepared_rows (row ∷ rows))) split ∙ sym (drop-drop (j * m) m (prepared_rows (row ∷ rows)))
          ∙ ap (drop (j * m)) (drop_at (prepared_row row) (prepared_rows rows) m length_is) ∙ after.1,
    )

-- from a job's operation on
from_operation : (m n k : ℕ) (rows : List (List Operation)) (j : ℕ)
    → AllByRecursion (λ (row : List Operation). length row ≡ m) rows → j < length rows → n ≡ j * m
    → k ≤ length (row_at rows j)
    → (rest : List PreparedOperation)
    × (drop (n + k) (prepared_rows rows) ≡ prepared_row (drop k (row_at rows j)) ++ rest)
from_operation m n k rows j steps lt is le =
    let job = from_job m n rows j steps lt is in (
      job.0,
      sym (drop-drop k n (prepared_rows rows)) ∙ ap (drop k) (job.1)
          ∙ drop-append-le k (prepared_row (row_at rows j)) (job.0)
          (omega (arith, length-prepared_row (row_at rows j), le))
          ∙ ap (λ ps. ps ++ job.0) (drop-prepared_row k (row_at rows j)),
    )

-- the part of the table that is a job's operations from a step on
pub part_is : (s : JobShop) (table : List PreparedOperation) (j n step a b : ℕ) → IsTable s table → j < length s.rows
    → n ≡ j * s.machines → a ≡ n + min step s.machines → b ≡ n + s.machines
    → take (b - a) (drop a table) ≡ prepared_row (drop step (row_at s.rows j))
part_is s table j n step a b is lt first from to =
    let row = row_at s.rows j in
    let long : length row ≡ s.machines = row-length s j is.shop lt in
    let k = min step s.machines in
    let part = from_operation s.machines n k s.rows j is.shop.steps lt first (omega (arith, long)) in
    let size : length (prepared_row (drop k row)) ≡ b - a =
    omega (arith, length-prepared_row (drop k row), length-drop k row, long, from, to) in
    ap (λ ps. take (b - a) (drop a ps)) is.operations ∙ ap (λ i. take (b - a) (drop i (prepared_rows s.rows))) from
    ∙ ap (take (b - a)) (part.1) ∙ take_at (prepared_row (drop k row)) (part.0) (b - a) size
    ∙ ap (λ i. prepared_row (drop (min step i) row)) (sym long) ∙ ap prepared_row (drop_min step row)

pub length-table : (s : JobShop) (table : List PreparedOperation) → IsTable s table
    → length table ≡ length s.rows * s.machines
length-table s table is = ap length is.operations ∙ length-prepared_rows s.machines s.rows is.shop.steps

-- the operation at one place of a row
operation_of-row : (row : List Operation) (k : ℕ) (d : PreparedOperation) (e : Operation) → k < length row
    → (get_or (prepared_row row) k d).operation ≡ get_or row k e
operation_of-row [] k d e lt = absurd (omega arith)
operation_of-row (o ∷ os) zero d e lt = refl
operation_of-row (o ∷ os) (suc k) d e lt = operation_of-row os k d e (omega arith)

-- the operation at one place of the table
pub operation_is : (s : JobShop) (table : List PreparedOperation) (j n k : ℕ) (d : PreparedOperation)
    → IsTable s table → j < length s.rows → k < s.machines → n ≡ j * s.machines
    → (get_or table (n + k) d).operation ≡ operation_at s j k
operation_is s table j n k d is lt step first =
    let row = row_at s.rows j in
    let long : length row ≡ s.machines = row-length s j is.shop lt in
    let job = from_job s.machines n s.rows j is.shop.steps lt first in
    ap (λ (p : PreparedOperation). p.operation)
    (ap (λ ps. get_or ps (n + k) d) is.operations ∙ sym (get_or-drop n (prepared_rows s.rows) k d)
    ∙ ap (λ ps. get_or ps k d) (job.1)
    ∙ get_or_append_left (prepared_row row) (job.0) d k (omega (arith, length-prepared_row row, long)))
    ∙ operation_of-row row k d (record { machine = 0; time = 0 }) (omega (arith, long))

-- the times of parts of several rows
rows_time-drop-nil : (j : ℕ) → rows_time (drop j []) ≡ 0
rows_time-drop-nil zero = refl
rows_time-drop-nil (suc j) = refl

pub rows_time-drop : (rows : List (List Operation)) (j : ℕ)
    → rows_time (drop j rows) ≡ row_time (row_at rows j) + rows_time (drop (suc j) rows)
rows_time-drop [] zero = refl
rows_time-drop [] (suc j) = refl
rows_time-drop (r ∷ rs) zero = refl
rows_time-drop (r ∷ rs) (suc j) = rows_time-drop rs j

-- what holds of each operation of a row holds of those that are left
pub all-drop : {A : Type 0} (P : A → Type 0) (k : ℕ) (xs : List A) → AllByRecursion P xs → AllByRecursion P (drop k xs)
all-drop P zero xs all = all
all-drop P (suc k) [] all = tt
all-drop P (suc k) (x ∷ xs) all = all-drop P k xs all.1

pub named-row : (s : JobShop) (j : ℕ) → IsJobShop s → j < length s.rows
    → AllByRecursion (λ (o : Operation). o.machine < s.machines) (row_at s.rows j)
named-row s j shop lt =
    All-from_recursion (λ (row : List Operation). AllByRecursion (λ (o : Operation). o.machine < s.machines) row)
    s.rows shop.named j [] lt

-- a job's operations end within the table
pub job-end : (j n m : ℕ) → j < n → j * m + m ≤ n * m
job-end j n m lt = let h : suc j ≤ n = lt in omega (arith, mul-le-mul_left m h)
