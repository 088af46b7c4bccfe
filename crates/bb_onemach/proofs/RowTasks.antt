-- What the program makes of one machine: its tasks from the table of heads, their limits and their bound.
use Rattle.std.proofs.Common.{◌≡◌, ℕ, zero, suc, ◌+◌, ◌*◌, ◌-◌, ◌≤◌, List, [], ◌∷◌, ◌++◌, inl, inr, true, refl, sym, ap, ◌∙◌, length, map, arith}
use Rattle.std.specs.Prelude.{Bool, All, filter, max}
use Rattle.std.specs.List.{AllByRecursion}
use Rattle.std.proofs.lemmas.List.{length-append}
use Rattle.std.proofs.lemmas.Bool.{cases_Bool, cond-true, cond-false}
use Rattle.std.proofs.lemmas.Bool.Decides.{eqb_tells}
use Rattle.std.proofs.lemmas.List.Elements.{All-filter, All-map, All-weaker}
use Rattle.std.proofs.lemmas.List.Sorted.{All-permutation, length_permutation}
use Rattle.inst_text.specs.declared.shop.Operation.{Operation}
use Rattle.inst_text.specs.Limits.{max_operations, max_total}
use Rattle.inst_text.specs.Shop.{JobShop, IsJobShop, row_time, rows_time, operations}
use Rattle.bb_problem.specs.Tree.{total}
use Rattle.bb_shop.specs.Plans.{row_at}
use Rattle.bb_shop.specs.Dispatching.{number_in}
use Rattle.bb_shop.specs.Bounds.{greatest, each_from, head_of}
use Rattle.bb_shop.specs.Working.{AreUpTo, FitTo, finish_at, left_of}
use Rattle.bb_shop.specs.TreeLawsHold.Tabled.{job-end}
use Rattle.bb_shop.specs.TreeLawsHold.Times.{row_time-le, row_time-drop}
use Rattle.bb_onemach.specs.declared.task.Task.{Task}
use Rattle.bb_onemach.specs.declared.visit.Visit.{Visit}
use Rattle.bb_onemach.specs.Bounds.{bound_by}
use Rattle.bb_onemach.specs.Thresholds.{one_machine_bound}
use Rattle.bb_onemach.specs.Visits.{row_visits, rows_visits, visits, heads, head_at, is_left, task_of, left_tasks, tasks}
use Rattle.bb_onemach.specs.Working.{IsRow, AreSmall, Falls, IsPlaced, task_by, HasHeads}
use Rattle.bb_onemach.specs.TreeLawsHold.Packing.{le-from_test}
use Rattle.bb_onemach.specs.TreeLawsHold.Starting.{IsVisit, visits_are, row_visits-same, row_visits-other, row_visits-nil, rows_visits-cons, rows_visits-nil}
use Rattle.bb_onemach.proofs.Gathered.{total-permutation, moved_are_same, left_falls, left_agrees}
use Rattle.bb_onemach.proofs.Sweeping.{same_itself, sweeps_are}

abbrev time_of : Visit → ℕ
time_of v = v.time

total-append : (f : Visit → ℕ) (xs ys : List Visit) → total f (xs ++ ys) ≡ total f xs + total f ys
total-append f [] ys = omega arith
total-append f (x ∷ xs) ys = omega (arith, total-append f xs ys)

-- the operations of a machine take no longer than all operations
row_visits-time : (m j k : ℕ) (os : List Operation) → total time_of (row_visits m j k os) ≤ row_time os
row_visits-time m j k [] = omega (arith, ap (total time_of) (row_visits-nil m j k))
row_visits-time m j k (o ∷ os) =
    elim (eqb_tells o.machine m) [
      | inl is ↦ omega (arith, ap (total time_of) (row_visits-same m j k o os is.1), row_visits-time m j (k + 1) os)
      | inr is ↦ omega (arith, ap (total time_of) (row_visits-other m j k o os is.1), row_visits-time m j (k + 1) os)
    ]

rows_visits-time : (m j : ℕ) (rows : List (List Operation)) → total time_of (rows_visits m j rows) ≤ rows_time rows
rows_visits-time m j [] = omega (arith, ap (total time_of) (rows_visits-nil m j))
rows_visits-time m j (r ∷ rs) =
    omega (
      arith,
      ap (total time_of) (rows_visits-cons m j r rs),
      total-append time_of (row_visits m j 0 r) (rows_visits m (j + 1) rs),
      row_visits-time m j 0 r,
      rows_visits-time m (j + 1) rs,
    )

-- nor do those of them that are left
left-time : (p : Visit → Bool) (f : Visit → Task) (vs : List Visit) → ((v : Visit) → (f v).time ≡ v.time) → total (λ (x : Task). x.time) (map f (filter p vs)) ≤ total time_of vs
left-time p f [] same = omega arith
left-time p f (v ∷ vs) same =
    let rest = left-time p f vs same in
    let g : List Visit → ℕ = λ ws. total (λ (x : Task). x.time) (map f ws) in
    elim (cases_Bool (p v)) [
      | inl is ↦ omega (arith, rest, same v, ap g (cond-true (p v) (v ∷ filter p vs) (filter p vs) is))
      | inr is ↦ omega (arith, rest, ap g (cond-false (p v) (v ∷ filter p vs) (filter p vs) is))
    ]

-- heads are small
heads-small : (machines : List ℕ) (ready : ℕ) (os : List Operation) → AreUpTo max_total machines → ready + row_time os ≤ 2 * max_total → row_time os ≤ max_total
    → (k : ℕ) → number_in (heads machines ready os) k ≤ 2 * max_total
unfolding heads
heads-small machines ready [] within early short k = omega arith
heads-small machines ready (o ∷ os) within early short zero = omega (arith, early, within.each o.machine)
heads-small machines ready (o ∷ os) within early short (suc k) =
    heads-small machines (head_of machines ready o + o.time) os within (omega (arith, early, short, within.each o.machine)) (omega (arith, short)) k

head_at-small : (s : JobShop) (steps jobs machines : List ℕ) (j k : ℕ) → IsJobShop s → FitTo s steps jobs machines → head_at s steps jobs machines j k ≤ 2 * max_total
head_at-small s steps jobs machines j k shop fit =
    let left = left_of s steps j in
    let time = row_time-drop (number_in steps j) (row_at s.rows j) in
    heads-small machines (number_in jobs j) left fit.machines_ready
    (omega (arith, fit.jobs_ready.each j, time, row_time-le s.rows j, shop.times)) (omega (arith, time, row_time-le s.rows j, shop.times)) (k - number_in steps j)

-- what is known of the operations of a machine's list
pub row_each : (s : JobShop) (m : ℕ) (row : List Visit) → IsJobShop s → IsRow s m row → All (IsVisit s m) row
row_each s m row shop is = All-permutation (IsVisit s m) (visits s m) row is.same (visits_are s m shop)

pub row_placed : (s : JobShop) (steps jobs machines table : List ℕ) (n m : ℕ) (row : List Visit) → IsJobShop s → FitTo s steps jobs machines → operations s ≤ length table → n ≡ s.machines
    → IsRow s m row → All (IsPlaced n steps table) row
row_placed s steps jobs machines table n m row shop fit long count is =
    All-weaker (IsVisit s m) (IsPlaced n steps table)
    (λ v of. record {
      job = omega (arith, of.operation.0, fit.each_step);
      place = omega (arith, ap (λ k. v.job * k) count, of.operation.1, job-end v.job (length s.rows) s.machines of.operation.0, long);
    })
    row (row_each s m row shop is)

-- the tasks by the table are those of the node
pub row_tasks : (s : JobShop) (steps jobs machines table : List ℕ) (n m : ℕ) (row : List Visit) → IsJobShop s → HasHeads s steps jobs machines table → n ≡ s.machines → IsRow s m row
    → map (task_by n table) (filter (is_left steps) row) ≡ left_tasks s steps jobs machines row
row_tasks s steps jobs machines table n m row shop has count is =
    ap (λ k. map (task_by k table) (filter (is_left steps) row)) count
    ∙ left_agrees (is_left steps) (task_by s.machines table) (task_of s steps jobs machines) row
    (All-weaker (IsVisit s m) (λ v. is_left steps v ≡ true → task_by s.machines table v ≡ task_of s steps jobs machines v)
    (λ v of left.
    ap (λ h. let x : Task = record { head = h; time = v.time; tail = v.tail } in x)
    (has.each v.job v.step of.operation.0 (le-from_test (number_in steps v.job) v.step left) of.operation.1))
    row (row_each s m row shop is))

pub row_small : (s : JobShop) (steps jobs machines : List ℕ) (m : ℕ) (row : List Visit) → IsJobShop s → FitTo s steps jobs machines → IsRow s m row → AreSmall (left_tasks s steps jobs machines row)
row_small s steps jobs machines m row shop fit is =
    let p = is_left steps in
    let f = task_of s steps jobs machines in
    let kept = filter p row in
    let each : All (IsVisit s m) kept = All-filter p (IsVisit s m) row (row_each s m row shop is) in
    record {
      times =
          omega (arith, left-time p f row (λ v. refl), total-permutation time_of (visits s m) row is.same, rows_visits-time m 0 s.rows, shop.times);
      heads =
          All-map (λ (x : Task). x.head ≤ 2 * max_total) f kept
          (All-weaker (IsVisit s m) (λ v. (f v).head ≤ 2 * max_total) (λ v of. head_at-small s steps jobs machines v.job v.step shop fit) kept each);
      tails =
          All-map (λ (x : Task). x.tail ≤ max_total) f kept
          (All-weaker (IsVisit s m) (λ v. (f v).tail ≤ max_total)
          (λ v of. omega (arith, of.tail, row_time-drop (v.step + 1) (row_at s.rows v.job), row_time-le s.rows v.job, shop.times)) kept each);
    }

pub row_falls : (s : JobShop) (steps jobs machines : List ℕ) (m : ℕ) (row : List Visit) → IsRow s m row → Falls (left_tasks s steps jobs machines row)
row_falls s steps jobs machines m row is = left_falls (is_left steps) (task_of s steps jobs machines) row (λ v. refl) is.falls

-- their bound is that of the machine
pub row_bound : (s : JobShop) (steps jobs machines : List ℕ) (m : ℕ) (row : List Visit) → IsRow s m row
    → one_machine_bound (left_tasks s steps jobs machines row) ≡ one_machine_bound (tasks s steps jobs machines m)
row_bound s steps jobs machines m row is =
    let ys = left_tasks s steps jobs machines row in
    let falls = row_falls s steps jobs machines m row is in
    sym (sweeps_are ys ys (same_itself ys) falls)
    ∙ sweeps_are (tasks s steps jobs machines m) ys (moved_are_same (is_left steps) (task_of s steps jobs machines) (visits s m) row is.same) falls

-- the parts of the bound
abbrev pub machine_part : JobShop → List ℕ → List ℕ → List ℕ → ℕ → ℕ
machine_part s steps jobs machines m = one_machine_bound (tasks s steps jobs machines m)

pub bound_parts : (s : JobShop) (steps jobs machines : List ℕ)
    → max (max (greatest (each_from (finish_at s steps jobs machines) 0 (length s.rows))) (greatest machines)) (greatest (each_from (machine_part s steps jobs machines) 0 s.machines))
    ≡ bound_by s steps jobs machines
unfolding bound_by
bound_parts s steps jobs machines = omega arith

-- a machine's list is no longer than there are operations
row_visits-count : (m j k : ℕ) (os : List Operation) → length (row_visits m j k os) ≤ length os
row_visits-count m j k [] = omega (arith, ap (λ (vs : List Visit). length vs) (row_visits-nil m j k))
row_visits-count m j k (o ∷ os) =
    elim (eqb_tells o.machine m) [
      | inl is ↦ omega (arith, ap (λ (vs : List Visit). length vs) (row_visits-same m j k o os is.1), row_visits-count m j (k + 1) os)
      | inr is ↦ omega (arith, ap (λ (vs : List Visit). length vs) (row_visits-other m j k o os is.1), row_visits-count m j (k + 1) os)
    ]

rows_visits-count : (n m j : ℕ) (rows : List (List Operation)) → AllByRecursion (λ (row : List Operation). length row ≡ n) rows → length (rows_visits m j rows) ≤ length rows * n
rows_visits-count n m j [] all = omega (arith, ap (λ (vs : List Visit). length vs) (rows_visits-nil m j))
rows_visits-count n m j (r ∷ rs) all =
    omega (
      arith,
      ap (λ (vs : List Visit). length vs) (rows_visits-cons m j r rs),
      length-append (row_visits m j 0 r) (rows_visits m (j + 1) rs),
      row_visits-count m j 0 r,
      all.0,
      rows_visits-count n m (j + 1) rs all.1,
    )

pub row_short : (s : JobShop) (m : ℕ) (row : List Visit) → IsJobShop s → IsRow s m row → length row ≤ max_operations
row_short s m row shop is = omega (arith, length_permutation (visits s m) row is.same, rows_visits-count s.machines m 0 s.rows shop.steps, shop.size)
