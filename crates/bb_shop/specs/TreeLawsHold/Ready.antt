-- Ready times are at most the sum of the times dispatched so far, and so within the sum of all times.
use Rattle.std.proofs.Common.{◌≡◌, ℕ, zero, suc, ◌+◌, ◌<◌, ◌≤◌, List, [], ◌∷◌, ◌++◌, inl, inr, refl, ap, ◌∙◌, length}
use Rattle.std.proofs.Common.{get_or, set, take, replicate, arith}
use Rattle.std.specs.Prelude.{All}
use Rattle.std.specs.List.{AllByRecursion}
use Rattle.std.proofs.lemmas.Bool.{cases_eq}
use Rattle.std.proofs.lemmas.List.{length_push}
use Rattle.std.proofs.lemmas.List.Elements.{recursion_from_All, All-from_get_or}
use Rattle.inst_text.specs.Limits.{max_total}
use Rattle.inst_text.specs.declared.shop.Operation.{Operation}
use Rattle.inst_text.specs.Shop.{JobShop, row_time, rows_time, operations, IsJobShop, AreStarts}
use Rattle.bb_shop.specs.Plans.{step_at, row_at, start_at, end_at, row_end, rows_end}
use Rattle.bb_shop.specs.Dispatching.{State, opened, number_in, starts_of, step_of, next_of, next_start, next_end}
use Rattle.bb_shop.specs.Dispatching.{dispatched, state_of, IsLeft, IsOrder}
use Rattle.bb_shop.specs.Branching.{order_cost}
use Rattle.bb_shop.specs.TreeLawsHold.States.{kept, IsState, IsState-opened, IsState-dispatched, starts-dispatched}
use Rattle.bb_shop.specs.TreeLawsHold.States.{job-same, job-other, job-opened, machine-same, machine-other}
use Rattle.bb_shop.specs.TreeLawsHold.States.{machine-opened, next_machine-lt}
use Rattle.bb_shop.specs.TreeLawsHold.Leaves.{IsSound-of}

-- the sum of the times of the first operations of each row, as many as it has start times
abbrev pub worked : List (List Operation) → List (List ℕ) → ℕ
worked [] rows = 0
worked (r ∷ rs) [] = 0
worked (r ∷ rs) (t ∷ ts) = row_time (take (length t) r) + worked rs ts

row_time-take : (n : ℕ) (row : List Operation) → row_time (take n row) ≤ row_time row
row_time-take zero row = omega arith
row_time-take (suc n) [] = omega arith
row_time-take (suc n) (o ∷ os) = omega (arith, row_time-take n os)

row_time-more : (n : ℕ) (row : List Operation)
    → row_time (take (suc n) row) ≡ row_time (take n row) + (step_at row n).time
row_time-more zero [] = refl
row_time-more (suc n) [] = refl
row_time-more zero (o ∷ os) = omega arith
row_time-more (suc n) (o ∷ os) = omega (arith, row_time-more n os)

pub worked-le : (rows : List (List Operation)) (starts : List (List ℕ)) → worked rows starts ≤ rows_time rows
worked-le [] starts = omega arith
worked-le (r ∷ rs) [] = omega arith
worked-le (r ∷ rs) (t ∷ ts) = omega (arith, row_time-take (length t) r, worked-le rs ts)

worked-none : (rows : List (List Operation)) (n : ℕ) → worked rows (replicate n []) ≡ 0
worked-none [] n = refl
worked-none (r ∷ rs) zero = refl
worked-none (r ∷ rs) (suc n) = omega (arith, worked-none rs n)

-- one start time more of a row
worked-set : (rows : List (List Operation)) (starts : List (List ℕ)) (j : ℕ) (row : List ℕ) → j < length starts
    → length row ≡ length (get_or starts j []) + 1
    → worked rows (set starts j row) ≡ worked rows starts + (step_at (row_at rows j) (length (get_or starts j []))).time
worked-set [] starts j row lt more = omega arith
worked-set (r ∷ rs) [] j row lt more = absurd (omega (arith, lt))
worked-set (r ∷ rs) (t ∷ ts) zero row lt more =
    let e : length row ≡ suc (length t) = omega (arith, more) in
    omega (arith, row_time-more (length t) r, ap (λ n. row_time (take n r)) e)
worked-set (r ∷ rs) (t ∷ ts) (suc j) row lt more = omega (arith, worked-set rs ts j row (omega (arith, lt)) more)

-- the sum of the times dispatched so far
abbrev pub work_of : JobShop → State → ℕ
work_of s st = worked s.rows st.starts

pub work_of-dispatched : (s : JobShop) (st : State) (j : ℕ) → j < length st.starts
    → work_of s (dispatched s st j) ≡ work_of s st + (next_of s st j).time
work_of-dispatched s st j lt =
    ap (worked s.rows) (starts-dispatched s st j)
    ∙ worked-set s.rows st.starts j (starts_of st j ++ next_start s st j ∷ []) lt
    (length_push (starts_of st j) (next_start s st j))

-- jobs and machines are ready at the latest when one after another has been worked
pub record IsTimely (s : JobShop) (st : State) : Type 0 where
  pub state : IsState s st
  pub jobs : (j : ℕ) → number_in st.jobs j ≤ work_of s st
  pub machines : (m : ℕ) → number_in st.machines m ≤ work_of s st

pub IsTimely-opened : (s : JobShop) → IsTimely s (opened s)
IsTimely-opened s = record {
  state = IsState-opened s;
  jobs = λ j. omega (arith, job-opened s j);
  machines = λ m. omega (arith, machine-opened s m);
}

-- the next operation ends at the latest when it is worked after all others
pub next_end-le : (s : JobShop) (st : State) (j : ℕ) → IsTimely s st
    → next_end s st j ≤ work_of s st + (next_of s st j).time
next_end-le s st j is = omega (arith, is.jobs j, is.machines (next_of s st j).machine)

job-timely : (s : JobShop) (st : State) (d j : ℕ) → IsTimely s st → IsLeft s st d
    → number_in (dispatched s st d).jobs j ≤ work_of s (dispatched s st d)
job-timely s st d j is left =
    let work = work_of-dispatched s st d (omega (arith, is.state.starts, left.0)) in
    elim (cases_eq j d) [
      | inl same ↦
          rw same (omega (arith, work, next_end-le s st d is, job-same s st d (omega (arith, is.state.jobs, left.0))))
      | inr other ↦ omega (arith, work, is.jobs j, job-other s st d j other)
    ]

machine-timely : (s : JobShop) (st : State) (d m : ℕ) → IsJobShop s → IsTimely s st → IsLeft s st d
    → number_in (dispatched s st d).machines m ≤ work_of s (dispatched s st d)
machine-timely s st d m shop is left =
    let work = work_of-dispatched s st d (omega (arith, is.state.starts, left.0)) in
    elim (cases_eq m (next_of s st d).machine) [
      | inl same ↦ rw same
          (omega (
            arith,
            work,
            next_end-le s st d is,
            machine-same s st d
                (omega (arith, is.state.machines, next_machine-lt s st d shop left)),
          ))
      | inr other ↦ omega (arith, work, is.machines m, machine-other s st d m other)
    ]

pub IsTimely-dispatched : (s : JobShop) → IsJobShop s → (st : State) (d : ℕ) → IsTimely s st → IsLeft s st d
    → IsTimely s (dispatched s st d)
IsTimely-dispatched s shop st d is left = record {
  state = IsState-dispatched s st d is.state left;
  jobs = λ j. job-timely s st d j is left;
  machines = λ m. machine-timely s st d m shop is left;
}

pub IsTimely-of : (s : JobShop) (name : List ℕ) → IsJobShop s → IsOrder s name → IsTimely s (state_of s name)
IsTimely-of s name shop order =
    kept s (IsTimely s) (IsTimely-dispatched s shop) (opened s) name (IsTimely-opened s) order

-- when a job that is left ends next, at most
pub next_end-within : (s : JobShop) (name : List ℕ) (j : ℕ) → IsJobShop s → IsOrder s name
    → IsLeft s (state_of s name) j → next_end s (state_of s name) j ≤ rows_time s.rows
next_end-within s name j shop order left =
    let st = state_of s name in
    let is = IsTimely-of s name shop order in
    let work = work_of-dispatched s st j (omega (arith, is.state.starts, left.0)) in
    omega (arith, next_end-le s st j is, work, worked-le s.rows (dispatched s st j).starts)

-- each operation that has been dispatched ends within the sum of all times
pub end-within : (s : JobShop) (name : List ℕ) (j k : ℕ) → IsJobShop s → IsOrder s name
    → k < step_of (state_of s name) j → end_at s (state_of s name).starts j k ≤ rows_time s.rows
end-within s name j k shop order started =
    let st = state_of s name in
    omega (
      arith,
      (IsSound-of s name shop order).job j k started,
      (IsTimely-of s name shop order).jobs j,
      worked-le
          s.rows st.starts,
    )

row_starts : (limit : ℕ) (row : List ℕ) → ((k : ℕ) → k < length row → get_or row k 0 ≤ limit)
    → AllByRecursion (λ (t : ℕ). t ≤ limit) row
row_starts limit row each =
    recursion_from_All (λ (t : ℕ). t ≤ limit) row (All-from_get_or (λ (t : ℕ). t ≤ limit) row 0 each)

pub rows_starts : (limit : ℕ) (rows : List (List ℕ)) → ((j k : ℕ) → j < length rows → k < length (get_or rows j [])
    → start_at rows j k ≤ limit) → AllByRecursion (λ (row : List ℕ). AllByRecursion (λ (t : ℕ). t ≤ limit) row) rows
rows_starts limit [] each = tt
rows_starts limit (row ∷ rows) each = (
  row_starts limit row (λ k lt. each 0 k (omega arith) lt),
  rows_starts limit rows
      (λ j k row_lt lt. each (suc j) k (omega (arith, row_lt)) lt),
)

pub starts-within : (s : JobShop) (name : List ℕ) → IsJobShop s → IsOrder s name → AreStarts (state_of s name).starts
starts-within s name shop order =
    rows_starts max_total (state_of s name).starts
    (λ j k row step. omega (arith, end-within s name j k shop order step, shop.times))

-- what the ready times of an order are within, and when a job that is left ends next
pub record AreWithin (s : JobShop) (name : List ℕ) : Type 0 where
  pub jobs : All (λ t. t ≤ max_total) (state_of s name).jobs
  pub machines : All (λ t. t ≤ max_total) (state_of s name).machines
  pub starts : AreStarts (state_of s name).starts
  pub next : (j : ℕ) → IsLeft s (state_of s name) j → next_end s (state_of s name) j ≤ max_total

pub ready_within : (s : JobShop) (name : List ℕ) → IsJobShop s → IsOrder s name → AreWithin s name
ready_within s name shop order =
    let st = state_of s name in
    let is = IsTimely-of s name shop order in
    let limit = worked-le s.rows st.starts in
    record {
      jobs = All-from_get_or (λ t. t ≤ max_total) st.jobs 0 (λ j lt. omega (arith, is.jobs j, limit, shop.times));
      machines =
          All-from_get_or (λ t. t ≤ max_total) st.machines 0 (λ m lt. omega (arith, is.machines m, limit, shop.times));
      starts = starts-within s name shop order;
      next = λ j left. omega (arith, next_end-within s name j shop order left, shop.times);
    }

-- rows whose operations end within a limit
row_end-le : (limit : ℕ) (row : List Operation) (ts : List ℕ)
    → ((k : ℕ) → k < length ts → get_or ts k 0 + (step_at row k).time ≤ limit) → row_end row ts ≤ limit
row_end-le limit [] ts each = omega arith
row_end-le limit (o ∷ os) [] each = omega arith
row_end-le limit (o ∷ os) (t ∷ ts) each =
    omega (arith, each 0 (omega arith), row_end-le limit os ts (λ k lt. each (suc k) (omega (arith, lt))))

pub rows_end-le : (limit : ℕ) (rows : List (List Operation)) (starts : List (List ℕ))
    → ((j k : ℕ) → k < length (get_or starts j []) → start_at starts j k + (step_at (row_at rows j) k).time ≤ limit)
    → rows_end rows starts ≤ limit
rows_end-le limit [] starts each = omega arith
rows_end-le limit (r ∷ rs) [] each = omega arith
rows_end-le limit (r ∷ rs) (t ∷ ts) each =
    omega (arith, row_end-le limit r t (λ k lt. each 0 k lt), rows_end-le limit rs ts (λ j k lt. each (suc j) k lt))

-- what an order costs is within the sum of all times
pub cost-within : (s : JobShop) (name : List ℕ) → IsJobShop s → IsOrder s name → order_cost s name ≤ rows_time s.rows
cost-within s name shop order =
    rows_end-le (rows_time s.rows) s.rows (state_of s name).starts
    (λ j k started. end-within s name j k shop order started)

pub whole_within : (s : JobShop) (name : List ℕ) → IsJobShop s → IsOrder s name → length name ≡ operations s
    → order_cost s name ≤ rows_time s.rows
whole_within s name shop order whole = cost-within s name shop order
