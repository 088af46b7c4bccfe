-- Proofs of the laws of the bounds: a node's bound is at most what it reaches. They define nothing that a contract
-- says.
use Rattle.std.proofs.Common.{◌≡◌, ◌≢◌, ℕ, ◌+◌, ◌<◌, ◌≤◌, List, [], ◌∷◌, ◌++◌, inl, inr, refl, sym, ap, length, arith}
use Rattle.std.specs.Prelude.{max}
use Rattle.std.proofs.lemmas.Bool.{cases_eq}
use Rattle.std.proofs.lemmas.List.{drop_more, drop_all}
use Rattle.std.proofs.lemmas.List.Elements.{All-from_recursion}
use Rattle.inst_text.specs.Limits.{max_total}
use Rattle.inst_text.specs.Shop.{JobShop, IsJobShop, operations, row_time, rows_time}
use Rattle.bb_shop.specs.Plans.{row_at, makespan, AreShaped}
use Rattle.bb_shop.specs.Dispatching.{State, opened, number_in, step_of, next_of, next_start, next_end, dispatched}
use Rattle.bb_shop.specs.Dispatching.{state_from, state_of, IsLeft, AreLeft, IsOrder}
use Rattle.bb_shop.specs.Bounds.{greatest, finish, Load, Idle, job_load, machine_bound, rest_of, finishes, load}
use Rattle.bb_shop.specs.Bounds.{machine_bounds, bound_at, bound_of}
use Rattle.bb_shop.specs.Branching.{Reaches, order_cost}
use Rattle.bb_shop.specs.TreeLawsHold.States.{state_from-append, AreLeft-first, AreLeft-rest, step_of-same}
use Rattle.bb_shop.specs.TreeLawsHold.States.{step_of-other, job-same, job-other, machine-same, machine-other, IsState}
use Rattle.bb_shop.specs.TreeLawsHold.States.{IsState-dispatched, IsState-of, whole_is_shaped, row-length}
use Rattle.bb_shop.specs.TreeLawsHold.States.{next_machine-lt}
use Rattle.bb_shop.specs.TreeLawsHold.Ready.{whole_within}
use Rattle.bb_shop.specs.TreeLawsHold.Least.{goes_on}
use Rattle.bb_shop.specs.TreeLawsHold.Grown.{AreAtMost, greatest-le, greatest_grows, le-greatest_each, greatest_each-le}
use Rattle.bb_shop.specs.TreeLawsHold.Grown.{finish_grows, finish-nil, finish-cons, time-le-finish}
use Rattle.bb_shop.specs.TreeLawsHold.Ended.{AreReady, AreReady-of}
use Rattle.bb_shop.specs.TreeLawsHold.Loads.{Grows, Follows, machine_bound_grows, machine_bound_follows, job_load-nil}
use Rattle.bb_shop.specs.TreeLawsHold.Loads.{job_load_grows, job_load_from, job_load_other, job_load_follows, all_grow}
use Rattle.bb_shop.specs.TreeLawsHold.Loads.{one_follows, all_from, all_idle}

-- when job k finishes at the earliest, and what it asks of machine m
abbrev finish_of : JobShop → State → ℕ → ℕ
finish_of s st k = finish st.machines (number_in st.jobs k) (rest_of s st k)

abbrev asked_by : JobShop → State → ℕ → ℕ → Load
asked_by s st m k = job_load st.machines m (number_in st.jobs k) (rest_of s st k)

-- No machine is ready earlier after a dispatching.
machines_grow : (s : JobShop) (st : State) (j : ℕ) → IsJobShop s → IsState s st → IsLeft s st j
    → AreAtMost st.machines (dispatched s st j).machines
machines_grow s st j shop is left = record {
  each =
      λ m.
      elim (cases_eq m (next_of s st j).machine) [
        | inl same ↦
            rw same (omega (arith, machine-same s st j (omega (arith, is.machines, next_machine-lt s st j shop left))))
        | inr other ↦ omega (arith, machine-other s st j m other)
      ];
}

-- the operations of a job that are left: the next one and those after it
rest-first : (s : JobShop) (st : State) (j : ℕ) → IsJobShop s → IsState s st → IsLeft s st j
    → rest_of s st j ≡ next_of s st j ∷ rest_of s (dispatched s st j) j
rest-first s st j shop is left =
    rw (step_of-same s st j (omega (arith, is.starts, left.0)))
    (drop_more (row_at s.rows j) (step_of st j) (record { machine = 0; time = 0 })
    (omega (arith, row-length s j shop left.0, left.1)))

-- The finishes grow.
finish_of_grows : (s : JobShop) (st : State) (j k : ℕ) → IsJobShop s → IsState s st → IsLeft s st j
    → finish_of s st k ≤ finish_of s (dispatched s st j) k
finish_of_grows s st j k shop is left =
    let most = machines_grow s st j shop is left in
    elim (cases_eq k j) [
      | inl same ↦
          rw (
            same,
            rest-first s st j shop is left,
            finish-cons st.machines (number_in st.jobs j) (next_of s st j)
                (rest_of s (dispatched s st j) j),
            job-same s st j (omega (arith, is.jobs, left.0)),
          )
          (finish_grows st.machines (dispatched s st j).machines (next_end s st j) (next_end s st j)
          (rest_of s (dispatched s st j) j) most (omega arith))
      | inr other ↦
          rw (job-other s st j k other, step_of-other s st j k other)
          (finish_grows st.machines (dispatched s st j).machines (number_in st.jobs k) (number_in st.jobs k)
          (rest_of s st k) most (omega arith))
    ]

-- What another job asks of a machine grows.
other_grows : (s : JobShop) (st : State) (j m k : ℕ) → IsJobShop s → IsState s st → IsLeft s st j → k ≢ j
    → Grows (asked_by s st m k) (asked_by s (dispatched s st j) m k)
other_grows s st j m k shop is left other =
    rw (job-other s st j k other, step_of-other s st j k other)
    (job_load_grows st.machines (dispatched s st j).machines m (number_in st.jobs k) (number_in st.jobs k)
    (rest_of s st k) (machines_grow s st j shop is left) (omega arith))

-- What the job asks of another machine grows.
elsewhere_grows : (s : JobShop) (st : State) (j m k : ℕ) → IsJobShop s → IsState s st → IsLeft s st j
    → (next_of s st j).machine ≢ m → Grows (asked_by s st m k) (asked_by s (dispatched s st j) m k)
elsewhere_grows s st j m k shop is left away =
    elim (cases_eq k j) [
      | inl same ↦
          rw (same, rest-first s st j shop is left, job-same s st j (omega (arith, is.jobs, left.0)))
          (job_load_other st.machines (dispatched s st j).machines m (number_in st.jobs j) (next_of s st j)
          (rest_of s (dispatched s st j) j) (machines_grow s st j shop is left) away)
      | inr other ↦ other_grows s st j m k shop is left other
    ]

-- What it asks of the operation's own machine loses that operation.
here_follows : (s : JobShop) (st : State) (j : ℕ) → IsJobShop s → IsState s st → IsLeft s st j
    → Follows (next_start s st j) (next_of s st j).time (row_time (rest_of s (dispatched s st j) j))
    (asked_by s st (next_of s st j).machine j) (asked_by s (dispatched s st j) (next_of s st j).machine j)
here_follows s st j shop is left =
    rw (rest-first s st j shop is left, job-same s st j (omega (arith, is.jobs, left.0)))
    (job_load_follows st.machines (dispatched s st j).machines (next_of s st j).machine (number_in st.jobs j)
    (next_of s st j) (rest_of s (dispatched s st j) j) (machines_grow s st j shop is left) refl)

-- A bound falls to no less than it was, unless it was at most the job's finish.
other_machine_bound : (s : JobShop) (st : State) (j m : ℕ) → IsJobShop s → IsState s st → IsLeft s st j
    → (next_of s st j).machine ≢ m → machine_bound (load s st m) ≤ machine_bound (load s (dispatched s st j) m)
other_machine_bound s st j m shop is left away =
    machine_bound_grows (load s st m) (load s (dispatched s st j) m)
    (all_grow (asked_by s st m) (asked_by s (dispatched s st j) m) 0 (length s.rows)
    (λ k low. elsewhere_grows s st j m k shop is left away))

own_machine_bound : (s : JobShop) (st : State) (j : ℕ) → IsJobShop s → IsState s st → IsLeft s st j
    → machine_bound (load s st (next_of s st j).machine) ≤ max (finish_of s (dispatched s st j) j)
    (machine_bound (load s (dispatched s st j) (next_of s st j).machine))
own_machine_bound s st j shop is left =
    let m = (next_of s st j).machine in
    let start = next_start s st j in
    let took = (next_of s st j).time in
    let next = dispatched s st j in
    let rest = row_time (rest_of s next j) in
    let ready : number_in next.machines m ≡ start + took =
    machine-same s st j (omega (arith, is.machines, next_machine-lt s st j shop left)) in
    let follows = one_follows start took rest (asked_by s st m) (asked_by s next m) 0 (length s.rows) j (omega arith)
    (omega (arith, left.0)) (λ k other. other_grows s st j m k shop is left other)
    (here_follows s st j shop is left) in
    let from = all_from (start + took) (asked_by s next m) 0 (length s.rows)
    (λ k. rw (sym ready) (job_load_from next.machines m (number_in next.jobs k) (rest_of s next k))) in
    omega (
      arith,
      machine_bound_follows start took rest (load s st m)
          (load s next m) follows from,
      time-le-finish next.machines (number_in next.jobs j)
          (rest_of s next j),
      job-same s st j (omega (arith, is.jobs, left.0)),
    )

machine_bound_within : (s : JobShop) (st : State) (j m : ℕ) → IsJobShop s → IsState s st → IsLeft s st j
    → machine_bound (load s st m) ≤ max (finish_of s (dispatched s st j) j)
    (machine_bound (load s (dispatched s st j) m))
machine_bound_within s st j m shop is left =
    elim (cases_eq (next_of s st j).machine m) [
      | inl same ↦ rw (sym same) (own_machine_bound s st j shop is left)
      | inr away ↦ omega (arith, other_machine_bound s st j m shop is left away)
    ]

-- The bound of a node's child is no less than the node's.
pub bound_grows : (s : JobShop) (st : State) (j : ℕ) → IsJobShop s → IsState s st → IsLeft s st j
    → bound_at s st ≤ bound_at s (dispatched s st j)
unfolding bound_at
bound_grows s st j shop is left =
    let next = dispatched s st j in
    let finishes_grow : greatest (finishes s st) ≤ greatest (finishes s next) =
    greatest_each-le (finish_of s st) 0 (length s.rows) (greatest (finishes s next))
    (λ k low high. omega (
      arith,
      finish_of_grows s st j k shop is left,
      le-greatest_each (finish_of s next) 0
          (length s.rows) k low high,
    )) in
    let machine_bounds_grow : greatest (machine_bounds s st) ≤ max (greatest (finishes s next))
    (greatest (machine_bounds s next)) =
    greatest_each-le (λ m. machine_bound (load s st m)) 0 s.machines
    (max (greatest (finishes s next)) (greatest (machine_bounds s next)))
    (λ m low high.
    omega (
      arith,
      machine_bound_within s st j m shop is left,
      le-greatest_each (finish_of s next) 0 (length s.rows) j (omega arith) (omega (arith, left.0)),
      le-greatest_each (λ m. machine_bound (load s next m)) 0 s.machines m low high,
    )) in
    omega (
      arith,
      finishes_grow,
      machine_bounds_grow,
      greatest_grows st.machines next.machines
          (machines_grow s st j shop is left),
    )

pub bound_grows_from : (s : JobShop) (st : State) (js : List ℕ) → IsJobShop s → IsState s st → AreLeft s st js
    → bound_at s st ≤ bound_at s (state_from s st js)
unfolding state_from
bound_grows_from s st [] shop is left = omega arith
bound_grows_from s st (j ∷ js) shop is left =
    omega (
      arith,
      bound_grows s st j shop is left.0,
      bound_grows_from s (dispatched s st j) js shop
          (IsState-dispatched s st j is left.0) left.1,
    )

-- Where all operations are dispatched, nothing is left.
rest-none : (s : JobShop) (st : State) (k : ℕ) → IsJobShop s → AreShaped s st.starts → k < length s.rows
    → rest_of s st k ≡ []
rest-none s st k shop shaped lt =
    let step : step_of st k ≡ s.machines =
    All-from_recursion (λ (row : List ℕ). length row ≡ s.machines) st.starts shaped.times k []
    (omega (arith, shaped.rows, lt)) in
    drop_all (step_of st k) (row_at s.rows k) (omega (arith, row-length s k shop lt, step))

idle_at_end : (s : JobShop) (st : State) (m : ℕ) → IsJobShop s → AreShaped s st.starts → load s st m ≡ Idle
idle_at_end s st m shop shaped =
    all_idle (asked_by s st m) 0 (length s.rows)
    (λ k low high. rw (rest-none s st k shop shaped (omega (arith, high)))
    (job_load-nil st.machines m (number_in st.jobs k)))

finished_at_end : (s : JobShop) (st : State) (k : ℕ) → IsJobShop s → AreShaped s st.starts → k < length s.rows
    → finish_of s st k ≡ number_in st.jobs k
finished_at_end s st k shop shaped lt =
    rw (rest-none s st k shop shaped lt) (finish-nil st.machines (number_in st.jobs k))

-- The bound of a whole schedule is at most its makespan.
pub bound_at_end : (s : JobShop) (st : State) → IsJobShop s → AreShaped s st.starts → AreReady s st
    → bound_at s st ≤ makespan s st.starts
unfolding bound_at
bound_at_end s st shop shaped are =
    let end = makespan s st.starts in
    let jobs : greatest (finishes s st) ≤ end =
    greatest_each-le (finish_of s st) 0 (length s.rows) end
    (λ k low high. omega (arith, finished_at_end s st k shop shaped (omega (arith, high)), are.jobs k)) in
    let idle : greatest (machine_bounds s st) ≤ end =
    greatest_each-le (λ m. machine_bound (load s st m)) 0 s.machines end
    (λ m low high. rw (idle_at_end s st m shop shaped) (omega arith)) in
    omega (arith, jobs, idle, greatest-le st.machines end are.machines)

pub bound-le-cost : (s : JobShop) (name more : List ℕ) → IsJobShop s → IsOrder s (name ++ more)
    → length (name ++ more) ≡ operations s → bound_of s name ≤ order_cost s (name ++ more)
bound-le-cost s name more shop order whole =
    let first = AreLeft-first s (opened s) name more order in
    let grows : bound_at s (state_of s name) ≤ bound_at s (state_from s (state_of s name) more) =
    bound_grows_from s (state_of s name) more shop (IsState-of s name first)
    (AreLeft-rest s (opened s) name more order) in
    let same : bound_at s (state_of s (name ++ more)) ≡ bound_at s (state_from s (state_of s name) more) =
    ap (bound_at s) (state_from-append s (opened s) name more) in
    omega (
      arith,
      grows,
      same,
      bound_at_end s (state_of s (name ++ more)) shop
          (whole_is_shaped s (name ++ more) order whole) (AreReady-of s (name ++ more) shop order),
    )

-- A node's bound is at most what it reaches.
pub bounded : (s : JobShop) (name : List ℕ) (v : ℕ) → IsJobShop s → Reaches s name v → bound_of s name ≤ v
bounded s name v shop r = omega (arith, bound-le-cost s name r.more shop r.order r.whole, r.cost)

-- No node's bound exceeds the sum of all times, and so the limit of that sum.
pub bound_in_time : (s : JobShop) (name : List ℕ) → IsJobShop s → IsOrder s name → bound_of s name ≤ rows_time s.rows
bound_in_time s name shop order =
    let g = goes_on s name shop order in
    omega (arith, bound-le-cost s name g.0 shop g.1 g.2, whole_within s (name ++ g.0) shop g.1 g.2)

pub bound_within : (s : JobShop) (name : List ℕ) → IsJobShop s → IsOrder s name → bound_of s name ≤ max_total
bound_within s name shop order = omega (arith, bound_in_time s name shop order, shop.times)
