-- Each feasible schedule is reached by dispatching: always the job is dispatched whose next operation starts
-- first in the schedule, and of several the one that ends first.
use Rattle.std.proofs.Common.{◌≡◌, ◌≢◌, ℕ, zero, suc, ◌+◌, ◌-◌, ◌<◌, ◌≤◌, ◌⊎◌, inl, inr, List, [], ◌∷◌, ◌++◌, sym}
use Rattle.std.proofs.Common.{length, get_or, add-one, arith}
use Rattle.std.proofs.Math.Logic.{⊎_swap}
use Rattle.std.proofs.lemmas.Bool.{cases_lt, cases_eq, cases_order}
use Rattle.std.proofs.lemmas.List.{append-nil, append_assoc, get_or_append_left, get_or_push, length_push}
use Rattle.std.proofs.lemmas.List.Elements.{All-from_recursion}
use Rattle.bb_problem.specs.Tree.{below}
use Rattle.inst_text.specs.declared.shop.Operation.{Operation}
use Rattle.inst_text.specs.Shop.{JobShop, IsJobShop, operations}
use Rattle.bb_shop.specs.Plans.{row_at, operation_at, start_at, end_at, IsOperation, AreInOrder, IsFeasible, row_end}
use Rattle.bb_shop.specs.Plans.{rows_end, makespan}
use Rattle.bb_shop.specs.Dispatching.{State, opened, number_in, starts_of, step_of, next_of, next_start, next_end}
use Rattle.bb_shop.specs.Dispatching.{dispatched, state_of, IsLeft, IsOrder}
use Rattle.bb_shop.specs.Branching.{order_cost, Reaches}
use Rattle.bb_shop.specs.TreeLawsHold.States.{state_of-nil, state_of-below, IsOrder-below, starts_of-same}
use Rattle.bb_shop.specs.TreeLawsHold.States.{starts_of-other, step_of-same, step_of-other, job-same, job-other}
use Rattle.bb_shop.specs.TreeLawsHold.States.{machine-same, machine-other, IsState, IsState-of, length-order}
use Rattle.bb_shop.specs.TreeLawsHold.States.{step_of-opened, job-opened, machine-opened, some_left, row-length}
use Rattle.bb_shop.specs.TreeLawsHold.States.{next_machine-lt}

-- in a plan in order an operation ends before each later one of its job starts
pub end-before : (s : JobShop) (plan : List (List ℕ)) → AreInOrder s plan → (j k h : ℕ) → IsOperation s j h → k < h
    → end_at s plan j k ≤ start_at plan j h
end-before s plan ordered j k zero is lt = absurd (omega (arith, lt))
end-before s plan ordered j k (suc h) is lt =
    let step : end_at s plan j h ≤ start_at plan j (suc h) =
    rw (add-one h) at (ordered j h (is.0, omega (arith, is.1))) in
    elim (cases_lt k h) [
      | inl before ↦ omega (arith, end-before s plan ordered j k h (is.0, omega (arith, is.1)) before, step)
      | inr le ↦
          let e : k ≡ h = omega (arith, le, lt) in
          rw e step
    ]

-- what runs from a to b goes before what runs from c to d: it starts first, or at the same time and ends first
pub record GoesFirst (a b c d : ℕ) : Type 0 where
  pub start : a ≤ c
  pub tie : c ≤ a → b ≤ d

GoesFirst-chain : (a b c d e f : ℕ) → GoesFirst a b c d → GoesFirst c d e f → GoesFirst a b e f
GoesFirst-chain a b c d e f p q = record {
  start = omega (arith, p.start, q.start);
  tie = λ (w : e ≤ a). omega (
    arith,
    w,
    p.start,
    q.start,
    p.tie (omega (arith, w, q.start)),
    q.tie
        (omega (arith, w, p.start)),
  );
}

one_goes_first : (a b c d : ℕ) → GoesFirst a b c d ⊎ GoesFirst c d a b
one_goes_first a b c d =
    elim (cases_order a c) [
      | inl same ↦
          elim (cases_lt b d) [
            | inl lt ↦ inl (record { start = omega (arith, same); tie = λ w. omega (arith, lt) })
            | inr le ↦ inr (record { start = omega (arith, same); tie = λ w. le })
          ]
      | inr other ↦
          elim other [
            | inl lt ↦ inl (record { start = omega (arith, lt); tie = λ (w : c ≤ a). absurd (omega (arith, lt, w)) })
            | inr lt ↦ inr (record { start = omega (arith, lt); tie = λ (w : a ≤ c). absurd (omega (arith, lt, w)) })
          ]
    ]

-- in the plan job j's next operation goes before that of job i
abbrev pub IsNextFirst : JobShop → List (List ℕ) → State → ℕ → ℕ → Type 0
IsNextFirst s plan st j i =
    GoesFirst (start_at plan j (step_of st j)) (end_at s plan j (step_of st j)) (start_at plan i (step_of st i))
    (end_at s plan i (step_of st i))

-- of the first n jobs with Q, the one whose next operation goes first in the plan
pub record First (s : JobShop) (plan : List (List ℕ)) (st : State) (Q : ℕ → Type 0) (n : ℕ) : Type 0 where
  pub job : ℕ
  pub is : Q job
  pub first : (i : ℕ) → i < n → Q i → IsNextFirst s plan st job i

-- one job more, which is without Q, or does not go first, or does
First-more : (s : JobShop) (plan : List (List ℕ)) (st : State) (Q : ℕ → Type 0) (n : ℕ) (f : First s plan st Q n) (j :
    ℕ) → Q j → IsNextFirst s plan st j f.job
    → (Q n → IsNextFirst s plan st j n) → First s plan st Q (suc n)
First-more s plan st Q n f j q before here = record {
  job = j;
  is = q;
  first =
      λ (i : ℕ) (lt : i < suc n) (is : Q i).
      elim (cases_eq i n) [
        | inl e ↦ rw e (here (rw e at is))
        | inr other ↦ GoesFirst-chain _ _ _ _ _ _ before (f.first i (omega (arith, lt, other)) is)
      ];
}

itself_first : (a b : ℕ) → GoesFirst a b a b
itself_first a b = record { start = omega arith; tie = λ w. omega arith }

pub first_of : (s : JobShop) (plan : List (List ℕ)) (st : State) (Q : ℕ → Type 0) → ((i : ℕ) → Q i ⊎ (Q i → ⊥))
    → (k : ℕ) → Q k → (n : ℕ) → First s plan st Q n
first_of s plan st Q decide k q zero =
    record { job = k; is = q; first = λ (i : ℕ) (lt : i < 0) is. absurd (omega (arith, lt)) }
first_of s plan st Q decide k q (suc n) =
    let f = first_of s plan st Q decide k q n in
    elim (decide n) [
      | inl is ↦
          elim (one_goes_first (start_at plan f.job (step_of st f.job)) (end_at s plan f.job (step_of st f.job))
          (start_at plan n (step_of st n)) (end_at s plan n (step_of st n))) [
            | inl before ↦ First-more s plan st Q n f f.job f.is (itself_first _ _) (λ _. before)
            | inr after ↦ First-more s plan st Q n f n is after (λ _. itself_first _ _)
          ]
      | inr none ↦ First-more s plan st Q n f f.job f.is (itself_first _ _) (λ (is : Q n). absurd (none is))
    ]

-- a job is left or not
pub left_or_not : (s : JobShop) (st : State) (i : ℕ) → IsLeft s st i ⊎ (IsLeft s st i → ⊥)
left_or_not s st i =
    elim (cases_lt i (length s.rows)) [
      | inl row ↦
          elim (cases_lt (step_of st i) s.machines) [
            | inl step ↦ inl (row, step)
            | inr none ↦ inr (λ is. omega (arith, none, is.1))
          ]
      | inr none ↦ inr (λ is. omega (arith, none, is.0))
    ]

-- of all operations that are left, that one goes first
first_of_all : (s : JobShop) (plan : List (List ℕ)) (st : State) → AreInOrder s plan
    → (f : First s plan st (IsLeft s st) (length s.rows)) (i h : ℕ) → IsOperation s i h → step_of st i ≤ h
    → GoesFirst (start_at plan f.job (step_of st f.job)) (end_at s plan f.job (step_of st f.job)) (start_at plan i h)
    (end_at s plan i h)
first_of_all s plan st ordered f i h is later =
    let next : IsNextFirst s plan st f.job i = f.first i (is.0) (is.0, omega (arith, later, is.1)) in
    elim (cases_lt (step_of st i) h) [
      | inl lt ↦
          let before : end_at s plan i (step_of st i) ≤ start_at plan i h =
          end-before s plan ordered i (step_of st i) h is lt in
          GoesFirst-chain _ _ _ _ _ _ next (record { start = omega (arith, before); tie = λ w. omega (arith, before) })
      | inr le ↦
          let e : step_of st i ≡ h = omega (arith, later, le) in
          rw e at next
    ]

-- of two operations of one machine that do not overlap, the one that goes first ends before the other starts
pub ends_before_start : (a t c u : ℕ) → GoesFirst a (a + t) c (c + u) → (a + t ≤ c) ⊎ (c + u ≤ a) → a + t ≤ c
ends_before_start a t c u first (inl before) = before
ends_before_start a t c u first (inr after) = omega (arith, after, first.start, first.tie (omega (arith, after)))

-- in a plan no operation of its machine that is left starts before the first one ends
makes_way : (s : JobShop) (plan : List (List ℕ)) (st : State) → IsFeasible s plan
    → (f : First s plan st (IsLeft s st) (length s.rows)) (i h : ℕ)
    → IsOperation s i h → step_of st i ≤ h → i ≢ f.job
    → (operation_at s i h).machine ≡ (next_of s st f.job).machine
    → end_at s plan f.job (step_of st f.job) ≤ start_at plan i h
makes_way s plan st feasible f i h is later other machine =
    let j = f.job in
    let k = step_of st f.job in
    let apart : (end_at s plan j k ≤ start_at plan i h) ⊎ (end_at s plan i h ≤ start_at plan j k) =
    elim (cases_order i j) [
      | inl same ↦ absurd (other same)
      | inr before_or_after ↦
          elim before_or_after [
            | inl lt ↦
                ⊎_swap (feasible.apart i h j k (record { one = is; other = f.is; later = inl lt; machine = machine }))
            | inr lt ↦ feasible.apart j k i h (record { one = f.is; other = is; later = inl lt; machine = sym machine })
          ]
    ] in
    ends_before_start (start_at plan j k) (operation_at s j k).time (start_at plan i h) (operation_at s i h).time
    (first_of_all s plan st feasible.ordered f i h is later) apart

-- The state keeps to the plan: each job and each machine is ready no later than the plan starts what is left on
-- it, and nothing was started later than the plan starts it.
pub record KeepsTo (s : JobShop) (plan : List (List ℕ)) (st : State) : Type 0 where
  pub ready : (j : ℕ) → IsLeft s st j → number_in st.jobs j ≤ start_at plan j (step_of st j)
  pub free : (j k : ℕ) → IsOperation s j k → step_of st j ≤ k
      → number_in st.machines (operation_at s j k).machine ≤ start_at plan j k
  pub sooner : (j k : ℕ) → j < length s.rows → k < step_of st j → start_at st.starts j k ≤ start_at plan j k

KeepsTo-opened : (s : JobShop) (plan : List (List ℕ)) → KeepsTo s plan (opened s)
KeepsTo-opened s plan = record {
  ready = λ j left. omega (arith, job-opened s j);
  free = λ j k is later. omega (arith, machine-opened s (operation_at s j k).machine);
  sooner = λ (j k : ℕ) (row : j < length s.rows) (lt : k < step_of (opened s) j). absurd
      (omega (arith, lt, step_of-opened s j));
}

-- the next operation of a job starts no later than in the plan
next-le : (s : JobShop) (plan : List (List ℕ)) (st : State) (j : ℕ) → KeepsTo s plan st → IsLeft s st j
    → next_start s st j ≤ start_at plan j (step_of st j)
next-le s plan st j keeps left = omega (arith, keeps.ready j left, keeps.free j (step_of st j) left (omega arith))

-- each part is kept where that operation is dispatched
ready-dispatched : (s : JobShop) (plan : List (List ℕ)) (st : State) (j : ℕ) → IsFeasible s plan → IsState s st
    → KeepsTo s plan st → IsLeft s st j
    → (i : ℕ) → IsLeft s (dispatched s st j) i
    → number_in (dispatched s st j).jobs i ≤ start_at plan i (step_of (dispatched s st j) i)
ready-dispatched s plan st j feasible state keeps left i is =
    elim (cases_eq i j) [
      | inl e ↦
          let step = step_of-same s st j (omega (arith, left.0, state.starts)) in
          let more : step_of st j + 1 < s.machines = omega (arith, step, rw e at (is.1)) in
          rw (e, step, job-same s st j (omega (arith, left.0, state.jobs)))
          (omega (arith, next-le s plan st j keeps left, feasible.ordered j (step_of st j) (left.0, more)))
      | inr other ↦
          let step = step_of-other s st j i other in
          rw (step, job-other s st j i other) (keeps.ready i (is.0, omega (arith, step, is.1)))
    ]

-- what is left after a dispatching was left before, and of the same job it comes later
pub left_before : (s : JobShop) (st : State) (j i h : ℕ) → IsState s st → IsLeft s st j
    → step_of (dispatched s st j) i ≤ h → (step_of st i ≤ h) × (i ≡ j → step_of st j < h)
left_before s st j i h state left later =
    elim (cases_eq i j) [
      | inl e ↦
          let lt : step_of st j < h =
          omega (arith, step_of-same s st j (omega (arith, left.0, state.starts)), rw e at later) in
          (rw e (omega (arith, lt)), λ _. lt)
      | inr other ↦ (omega (arith, step_of-other s st j i other, later), λ (e : i ≡ j). absurd (other e))
    ]

-- an operation left on the machine of the one that goes first starts no earlier than that one is made to end
waits : (s : JobShop) (plan : List (List ℕ)) (st : State) (f : First s plan st (IsLeft s st) (length s.rows))
    → IsFeasible s plan → KeepsTo s plan st
    → (i h : ℕ) → IsOperation s i h → (step_of st i ≤ h) × (i ≡ f.job → step_of st f.job < h)
    → (operation_at s i h).machine ≡ (next_of s st f.job).machine → next_end s st f.job ≤ start_at plan i h
waits s plan st f feasible keeps i h is later machine =
    let start = next-le s plan st f.job keeps f.is in
    elim (cases_eq i f.job) [
      | inl e ↦
          let before : end_at s plan f.job (step_of st f.job) ≤ start_at plan f.job h =
          end-before s plan feasible.ordered f.job (step_of st f.job) h (rw e at is) (later.1 e) in
          rw e (omega (arith, start, before))
      | inr other ↦ omega (arith, start, makes_way s plan st feasible f i h is (later.0) other machine)
    ]

free-dispatched : (s : JobShop) (plan : List (List ℕ)) (st : State) (f :
    First s plan st (IsLeft s st) (length s.rows)) → IsJobShop s → IsFeasible s plan → IsState s st → KeepsTo s plan st
    → (i h : ℕ) → IsOperation s i h → step_of (dispatched s st f.job) i ≤ h
    → number_in (dispatched s st f.job).machines (operation_at s i h).machine ≤ start_at plan i h
free-dispatched s plan st f shop feasible state keeps i h is later =
    let before = left_before s st f.job i h state f.is later in
    elim (cases_eq (operation_at s i h).machine (next_of s st f.job).machine) [
      | inl machine ↦
          rw (machine, machine-same s st f.job (omega (arith, next_machine-lt s st f.job shop f.is, state.machines)))
          (waits s plan st f feasible keeps i h is before machine)
      | inr elsewhere ↦
          rw (machine-other s st f.job (operation_at s i h).machine elsewhere) (keeps.free i h is (before.0))
    ]

sooner-same : (s : JobShop) (plan : List (List ℕ)) (st : State) (j h : ℕ) → KeepsTo s plan st → IsLeft s st j
    → h < step_of st j + 1
    → get_or (starts_of st j ++ next_start s st j ∷ []) h 0 ≤ start_at plan j h
sooner-same s plan st j h keeps left lt =
    elim (cases_lt h (step_of st j)) [
      | inl before ↦ rw (get_or_append_left (starts_of st j) (next_start s st j ∷ []) 0 h before)
          (keeps.sooner j h (left.0) before)
      | inr le ↦
          let last : step_of st j ≡ h = omega (arith, le, lt) in
          rw (get_or_push (starts_of st j) (next_start s st j) 0 h last, ← last) (next-le s plan st j keeps left)
    ]

sooner-dispatched : (s : JobShop) (plan : List (List ℕ)) (st : State) (j : ℕ) → IsState s st → KeepsTo s plan st
    → IsLeft s st j
    → (i h : ℕ) → i < length s.rows → h < step_of (dispatched s st j) i
    → start_at (dispatched s st j).starts i h ≤ start_at plan i h
sooner-dispatched s plan st j state keeps left i h row lt =
    elim (cases_eq i j) [
      | inl e ↦
          let inside : j < length st.starts = omega (arith, left.0, state.starts) in
          let early : h < step_of st j + 1 = omega (arith, step_of-same s st j inside, rw e at lt) in
          rw (e, starts_of-same s st j inside) (sooner-same s plan st j h keeps left early)
      | inr other ↦
          rw (starts_of-other s st j i other) (keeps.sooner i h row (omega (arith, lt, step_of-other s st j i other)))
    ]

KeepsTo-dispatched : (s : JobShop) (plan : List (List ℕ)) (st : State) (f :
    First s plan st (IsLeft s st) (length s.rows)) → IsJobShop s → IsFeasible s plan
    → IsState s st → KeepsTo s plan st → KeepsTo s plan (dispatched s st f.job)
KeepsTo-dispatched s plan st f shop feasible state keeps = record {
  ready = ready-dispatched s plan st f.job feasible state keeps f.is;
  free = free-dispatched s plan st f shop feasible state keeps;
  sooner = sooner-dispatched s plan st f.job state keeps f.is;
}

-- start times that are no later than others end no later
row_end-le : (row : List Operation) (ts us : List ℕ) → length row ≤ length us
    → ((k : ℕ) → k < length ts → get_or ts k 0 ≤ get_or us k 0) → row_end row ts ≤ row_end row us
row_end-le [] ts us enough each = omega arith
row_end-le (o ∷ os) [] us enough each = omega arith
row_end-le (o ∷ os) (t ∷ ts) [] enough each = absurd (omega (arith, enough))
row_end-le (o ∷ os) (t ∷ ts) (u ∷ us) enough each =
    omega (
      arith,
      each 0 (omega arith),
      row_end-le os ts us (omega (arith, enough))
          (λ k lt. each (suc k) (omega (arith, lt))),
    )

rows_end-le : (rows : List (List Operation)) (ts us : List (List ℕ)) → length rows ≤ length us
    → ((j : ℕ) → j < length rows → row_end (get_or rows j []) (get_or ts j []) ≤ row_end (get_or rows j [])
    (get_or us j [])) → rows_end rows ts ≤ rows_end rows us
rows_end-le [] ts us enough each = omega arith
rows_end-le (r ∷ rs) [] us enough each = omega arith
rows_end-le (r ∷ rs) (t ∷ ts) [] enough each = absurd (omega (arith, enough))
rows_end-le (r ∷ rs) (t ∷ ts) (u ∷ us) enough each =
    omega (
      arith,
      each 0 (omega arith),
      rows_end-le rs ts us (omega (arith, enough))
          (λ j lt. each (suc j) (omega (arith, lt))),
    )

-- so a state that keeps to a plan ends no later
keeps_row : (s : JobShop) (plan : List (List ℕ)) (st : State) → IsJobShop s → IsFeasible s plan → KeepsTo s plan st
    → (j : ℕ) → j < length s.rows
    → row_end (row_at s.rows j) (starts_of st j) ≤ row_end (row_at s.rows j) (get_or plan j [])
keeps_row s plan st shop feasible keeps j row =
    let times : length (get_or plan j []) ≡ s.machines =
    All-from_recursion (λ (ts : List ℕ). length ts ≡ s.machines) plan feasible.shaped.times j []
    (omega (arith, row, feasible.shaped.rows)) in
    row_end-le (row_at s.rows j) (starts_of st j) (get_or plan j []) (omega (arith, row-length s j shop row, times))
    (λ k lt. keeps.sooner j k row lt)

pub keeps_cost : (s : JobShop) (plan : List (List ℕ)) (st : State) → IsJobShop s → IsFeasible s plan
    → KeepsTo s plan st → makespan s st.starts ≤ makespan s plan
keeps_cost s plan st shop feasible keeps =
    rows_end-le s.rows st.starts plan (omega (arith, feasible.shaped.rows)) (keeps_row s plan st shop feasible keeps)

-- a whole order reaches what it costs
pub Reaches-whole : (s : JobShop) (name : List ℕ) (v : ℕ) → IsOrder s name → length name ≡ operations s
    → order_cost s name ≤ v → Reaches s name v
Reaches-whole s name v order whole cost =
    let e : name ++ [] ≡ name = append-nil name in
    record { more = []; order = rw e order; whole = rw e whole; cost = rw e cost }

-- what goes on from below a node goes on from the node
pub Reaches-above : (s : JobShop) (name : List ℕ) (k v : ℕ) → Reaches s (below name k) v → Reaches s name v
Reaches-above s name k v r =
    let e : below name k ++ r.more ≡ name ++ (k ∷ r.more) = append_assoc name (k ∷ []) r.more in
    record { more = k ∷ r.more; order = rw e at r.order; whole = rw e at r.whole; cost = rw e at r.cost }

reached_from : (s : JobShop) (plan : List (List ℕ)) → IsJobShop s → IsFeasible s plan → (n : ℕ) (name : List ℕ)
    → IsOrder s name
    → length name + n ≡ operations s → KeepsTo s plan (state_of s name) → Reaches s name (makespan s plan)
reached_from s plan shop feasible zero name order whole keeps =
    Reaches-whole s name (makespan s plan) order (omega (arith, whole))
    (keeps_cost s plan (state_of s name) shop feasible keeps)
reached_from s plan shop feasible (suc n) name order whole keeps =
    let left = some_left s name order (omega (arith, whole)) in
    let f = first_of s plan (state_of s name) (IsLeft s (state_of s name)) (left_or_not s (state_of s name)) (left.0)
    (left.1) (length s.rows) in
    let kept = KeepsTo-dispatched s plan (state_of s name) f shop feasible (IsState-of s name order) keeps in
    let rest = reached_from s plan shop feasible n (below name f.job) (IsOrder-below s name f.job order f.is)
    (omega (arith, length_push name f.job, whole)) (rw (state_of-below s name f.job) kept) in
    Reaches-above s name f.job (makespan s plan) rest

-- an order whose state keeps to a plan reaches what the plan costs
pub keeps_reaches : (s : JobShop) (plan : List (List ℕ)) (name : List ℕ) → IsJobShop s → IsFeasible s plan
    → IsOrder s name → KeepsTo s plan (state_of s name) → Reaches s name (makespan s plan)
keeps_reaches s plan name shop feasible order keeps =
    reached_from s plan shop feasible (operations s - length name) name order
    (omega (arith, length-order s name order)) keeps

pub reached : (s : JobShop) (plan : List (List ℕ)) → IsJobShop s → IsFeasible s plan → Reaches s [] (makespan s plan)
reached s plan shop feasible =
    reached_from s plan shop feasible (operations s) [] tt (omega arith) (rw (state_of-nil s) (KeepsTo-opened s plan))
