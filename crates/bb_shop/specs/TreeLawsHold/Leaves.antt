-- The start times of a whole order are feasible.
use Rattle.std.proofs.Common.{◌≡◌, ℕ, ◌+◌, ◌<◌, ◌≤◌, List, [], ◌∷◌, ◌⊎◌, inl, inr, refl, sym, ap, ◌∙◌, length, get_or}
use Rattle.std.proofs.Common.{arith}
use Rattle.std.proofs.lemmas.Bool.{cases_lt, cases_eq}
use Rattle.std.proofs.lemmas.List.{get_or_append_left, get_or_push}
use Rattle.std.proofs.lemmas.List.Elements.{All-from_recursion}
use Rattle.inst_text.specs.Shop.{JobShop, operations, IsJobShop}
use Rattle.bb_shop.specs.Plans.{operation_at, start_at, end_at, IsOperation, IsBefore, IsFeasible}
use Rattle.bb_shop.specs.Dispatching.{State, opened, number_in, starts_of, step_of, next_of, next_start, next_end}
use Rattle.bb_shop.specs.Dispatching.{dispatched, state_of, IsLeft, IsOrder}
use Rattle.bb_shop.specs.TreeLawsHold.States.{kept, IsState, IsState-opened, IsState-dispatched, starts_of-same}
use Rattle.bb_shop.specs.TreeLawsHold.States.{starts_of-other, step_of-same, step_of-other, step_of-opened, job-same}
use Rattle.bb_shop.specs.TreeLawsHold.States.{job-other, machine-same, machine-other, next_machine-lt, whole_is_shaped}

-- the operation at this step has been dispatched
abbrev pub IsStarted : State → ℕ → ℕ → Type 0
IsStarted st j k = k < step_of st j

-- the machine of an operation
abbrev machine_at : JobShop → ℕ → ℕ → ℕ
machine_at s j k = (operation_at s j k).machine

-- What every dispatching keeps: no operation starts before the one before it in its job has ended, jobs and
-- machines are ready only when their operations have ended, and the operations of one machine do not overlap.
pub record IsSound (s : JobShop) (st : State) : Type 0 where
  pub state : IsState s st
  pub ordered : (j k : ℕ) → IsStarted st j (k + 1) → end_at s st.starts j k ≤ start_at st.starts j (k + 1)
  pub job : (j k : ℕ) → IsStarted st j k → end_at s st.starts j k ≤ number_in st.jobs j
  pub machine : (j k : ℕ) → IsStarted st j k → end_at s st.starts j k ≤ number_in st.machines (machine_at s j k)
  pub apart : (i h j k : ℕ) → IsStarted st i h → IsStarted st j k → IsBefore i h j k
      → machine_at s i h ≡ machine_at s j k
      → (end_at s st.starts i h ≤ start_at st.starts j k) ⊎ (end_at s st.starts j k ≤ start_at st.starts i h)

none_started : (s : JobShop) (j k : ℕ) → IsStarted (opened s) j k → ⊥
none_started s j k started = omega (arith, started, step_of-opened s j)

pub IsSound-opened : (s : JobShop) → IsSound s (opened s)
IsSound-opened s = record {
  state = IsState-opened s;
  ordered = λ j k started. absurd (none_started s j (k + 1) started);
  job = λ j k started. absurd (none_started s j k started);
  machine = λ j k started. absurd (none_started s j k started);
  apart = λ i h j k one other before same. absurd (none_started s i h one);
}

-- an operation that has been dispatched is one of those before, or the new one
pub started_cases : (s : JobShop) (st : State) (d j k : ℕ) → IsState s st → IsLeft s st d
    → IsStarted (dispatched s st d) j k → IsStarted st j k ⊎ ((j ≡ d) × (k ≡ step_of st d))
started_cases s st d j k is left started =
    elim (cases_eq j d) [
      | inl same ↦
          let more : step_of (dispatched s st d) j ≡ step_of st d + 1 =
          rw same (step_of-same s st d (omega (arith, is.starts, left.0))) in
          elim (cases_lt k (step_of st d)) [
            | inl lt ↦ inl (omega (arith, lt, ap (λ i. step_of st i) same))
            | inr le ↦ inr (same, omega (arith, le, more, started))
          ]
      | inr other ↦ inl (omega (arith, started, step_of-other s st d j other))
    ]

-- what has been dispatched keeps its start
pub start-old : (s : JobShop) (st : State) (d j k : ℕ) → IsState s st → IsLeft s st d → IsStarted st j k
    → start_at (dispatched s st d).starts j k ≡ start_at st.starts j k
start-old s st d j k is left started =
    elim (cases_eq j d) [
      | inl same ↦
          let inside : k < step_of st d = omega (arith, started, ap (λ i. step_of st i) same) in
          rw same (ap (λ (row : List ℕ). get_or row k 0) (starts_of-same s st d (omega (arith, is.starts, left.0)))
          ∙ get_or_append_left (starts_of st d) (next_start s st d ∷ []) 0 k inside)
      | inr other ↦ ap (λ (row : List ℕ). get_or row k 0) (starts_of-other s st d j other)
    ]

pub end-old : (s : JobShop) (st : State) (d j k : ℕ) → IsState s st → IsLeft s st d → IsStarted st j k
    → end_at s (dispatched s st d).starts j k ≡ end_at s st.starts j k
end-old s st d j k is left started = ap (λ t. t + (operation_at s j k).time) (start-old s st d j k is left started)

-- the new operation starts once its job and its machine are ready
pub start-new : (s : JobShop) (st : State) (d : ℕ) → IsState s st → IsLeft s st d
    → start_at (dispatched s st d).starts d (step_of st d) ≡ next_start s st d
start-new s st d is left =
    ap (λ (row : List ℕ). get_or row (step_of st d) 0) (starts_of-same s st d (omega (arith, is.starts, left.0)))
    ∙ get_or_push (starts_of st d) (next_start s st d) 0 (step_of st d) refl

pub end-new : (s : JobShop) (st : State) (d : ℕ) → IsState s st → IsLeft s st d
    → end_at s (dispatched s st d).starts d (step_of st d) ≡ next_end s st d
end-new s st d is left = ap (λ t. t + (next_of s st d).time) (start-new s st d is left)

-- ready times grow
pub job-grows : (s : JobShop) (st : State) (d j : ℕ) → IsState s st → IsLeft s st d
    → number_in st.jobs j ≤ number_in (dispatched s st d).jobs j
job-grows s st d j is left =
    elim (cases_eq j d) [
      | inl same ↦ rw same (omega (arith, job-same s st d (omega (arith, is.jobs, left.0))))
      | inr other ↦ omega (arith, job-other s st d j other)
    ]

pub machine-grows : (s : JobShop) (st : State) (d m : ℕ) → IsJobShop s → IsState s st → IsLeft s st d
    → number_in st.machines m ≤ number_in (dispatched s st d).machines m
machine-grows s st d m shop is left =
    elim (cases_eq m (next_of s st d).machine) [
      | inl same ↦
          rw same (omega (arith, machine-same s st d (omega (arith, is.machines, next_machine-lt s st d shop left))))
      | inr other ↦ omega (arith, machine-other s st d m other)
    ]

ordered-dispatched : (s : JobShop) (st : State) (d j k : ℕ) → IsSound s st → IsLeft s st d
    → IsStarted (dispatched s st d) j (k + 1)
    → end_at s (dispatched s st d).starts j k ≤ start_at (dispatched s st d).starts j (k + 1)
ordered-dispatched s st d j k is left started =
    elim (started_cases s st d j (k + 1) is.state left started) [
      | inl old ↦ omega (
        arith,
        is.ordered j k old,
        end-old s st d j k is.state left
            (omega (arith, old)),
        start-old s st d j (k + 1) is.state left old,
      )
      | inr new ↦
          let before : IsStarted st j k = omega (arith, new.1, ap (λ i. step_of st i) (new.0)) in
          let start : start_at (dispatched s st d).starts j (k + 1) ≡ next_start s st d =
          rw (new.1, new.0) (start-new s st d is.state left) in
          omega (
            arith,
            is.job j k before,
            end-old s st d j k is.state left before,
            start,
            ap
                (λ i. number_in st.jobs i) (new.0),
          )
    ]

job-dispatched : (s : JobShop) (st : State) (d j k : ℕ) → IsSound s st → IsLeft s st d
    → IsStarted (dispatched s st d) j k → end_at s (dispatched s st d).starts j k ≤ number_in (dispatched s st d).jobs j
job-dispatched s st d j k is left started =
    elim (started_cases s st d j k is.state left started) [
      | inl old ↦ omega (arith, is.job j k old, end-old s st d j k is.state left old, job-grows s st d j is.state left)
      | inr new ↦ rw (new.1, new.0)
          (omega (arith, end-new s st d is.state left, job-same s st d (omega (arith, is.state.jobs, left.0))))
    ]

machine-dispatched : (s : JobShop) (st : State) (d j k : ℕ) → IsJobShop s → IsSound s st → IsLeft s st d
    → IsStarted (dispatched s st d) j k
    → end_at s (dispatched s st d).starts j k ≤ number_in (dispatched s st d).machines (machine_at s j k)
machine-dispatched s st d j k shop is left started =
    elim (started_cases s st d j k is.state left started) [
      | inl old ↦ omega (
        arith,
        is.machine j k old,
        end-old s st d j k is.state left old,
        machine-grows s st d
            (machine_at s j k) shop is.state left,
      )
      | inr new ↦ rw (new.1, new.0)
          (omega (
            arith,
            end-new s st d is.state left,
            machine-same s st d
                (omega (arith, is.state.machines, next_machine-lt s st d shop left)),
          ))
    ]

-- one operation does not stand before itself
not_itself : (i h j k d n : ℕ) → IsBefore i h j k → (i ≡ d) × (h ≡ n) → (j ≡ d) × (k ≡ n) → ⊥
not_itself i h j k d n before one other =
    elim before [
      | inl lt ↦ omega (arith, lt, one.0, other.0)
      | inr same ↦ omega (arith, same.1, one.1, other.1)
    ]

apart-dispatched : (s : JobShop) (st : State) (d i h j k : ℕ) → IsSound s st → IsLeft s st d
    → IsStarted (dispatched s st d) i h → IsStarted (dispatched s st d) j k → IsBefore i h j k
    → machine_at s i h ≡ machine_at s j k
    → (end_at s (dispatched s st d).starts i h ≤ start_at (dispatched s st d).starts j k)
    ⊎ (end_at s (dispatched s st d).starts j k ≤ start_at (dispatched s st d).starts i h)
apart-dispatched s st d i h j k is left one other before same =
    elim (started_cases s st d i h is.state left one) [
      | inl one_old ↦
          let one_end = end-old s st d i h is.state left one_old in
          let one_start = start-old s st d i h is.state left one_old in
          elim (started_cases s st d j k is.state left other) [
            | inl other_old ↦
                let other_end = end-old s st d j k is.state left other_old in
                let other_start = start-old s st d j k is.state left other_old in
                elim (is.apart i h j k one_old other_old before same) [
                  | inl le ↦ inl (omega (arith, le, one_end, other_start))
                  | inr le ↦ inr (omega (arith, le, other_end, one_start))
                ]
            | inr new ↦
                let start : start_at (dispatched s st d).starts j k ≡ next_start s st d =
                rw (new.1, new.0) (start-new s st d is.state left) in
                let m : machine_at s i h ≡ (next_of s st d).machine = same ∙ rw (new.1, new.0) refl in
                inl (omega (arith, one_end, start, is.machine i h one_old, ap (λ n. number_in st.machines n) m))
          ]
      | inr one_new ↦
          elim (started_cases s st d j k is.state left other) [
            | inl other_old ↦
                let start : start_at (dispatched s st d).starts i h ≡ next_start s st d =
                rw (one_new.1, one_new.0) (start-new s st d is.state left) in
                let m : machine_at s j k ≡ (next_of s st d).machine = sym same ∙ rw (one_new.1, one_new.0) refl in
                inr (omega (
                  arith,
                  end-old s st d j k is.state left other_old,
                  start,
                  is.machine j k other_old,
                  ap
                      (λ n. number_in st.machines n) m,
                ))
            | inr new ↦ absurd (not_itself i h j k d (step_of st d) before one_new new)
          ]
    ]

pub IsSound-dispatched : (s : JobShop) → IsJobShop s → (st : State) (d : ℕ) → IsSound s st → IsLeft s st d
    → IsSound s (dispatched s st d)
IsSound-dispatched s shop st d is left = record {
  state = IsState-dispatched s st d is.state left;
  ordered = λ j k started. ordered-dispatched s st d j k is left started;
  job = λ j k started. job-dispatched s st d j k is left started;
  machine = λ j k started. machine-dispatched s st d j k shop is left started;
  apart = λ i h j k one other before same. apart-dispatched s st d i h j k is left one other before same;
}

pub IsSound-of : (s : JobShop) (name : List ℕ) → IsJobShop s → IsOrder s name → IsSound s (state_of s name)
IsSound-of s name shop order = kept s (IsSound s) (IsSound-dispatched s shop) (opened s) name (IsSound-opened s) order

-- in a whole order each operation has been dispatched
whole_is_started : (s : JobShop) (name : List ℕ) (j k : ℕ) → IsOrder s name → length name ≡ operations s
    → IsOperation s j k → IsStarted (state_of s name) j k
whole_is_started s name j k order whole operation =
    let shaped = whole_is_shaped s name order whole in
    let full = All-from_recursion (λ (row : List ℕ). length row ≡ s.machines)
    (state_of s name).starts shaped.times j [] (omega (arith, shaped.rows, operation.0)) in
    omega (arith, full, operation.1)

pub leaf_is_feasible : (s : JobShop) (name : List ℕ) → IsJobShop s → IsOrder s name → length name ≡ operations s
    → IsFeasible s (state_of s name).starts
leaf_is_feasible s name shop order whole =
    let is = IsSound-of s name shop order in
    record {
      shaped = whole_is_shaped s name order whole;
      ordered = λ j k operation. is.ordered j k (whole_is_started s name j (k + 1) order whole operation);
      apart = λ i h j k pair.
          is.apart i h j k (whole_is_started s name i h order whole pair.one)
          (whole_is_started s name j k order whole pair.other) pair.later pair.machine;
    }
