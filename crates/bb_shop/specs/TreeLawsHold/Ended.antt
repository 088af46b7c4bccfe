-- Proofs of the laws of the bounds: the makespan does not fall where an operation is dispatched, and no job or
-- machine is ready after it. They define nothing that a contract says.
use Rattle.std.proofs.Common.{◌≡◌, ℕ, zero, suc, ◌+◌, ◌<◌, ◌≤◌, List, [], ◌∷◌, ◌++◌, inl, inr, refl, length, get_or}
use Rattle.std.proofs.Common.{set, arith}
use Rattle.std.proofs.lemmas.Bool.{cases_eq}
use Rattle.std.proofs.lemmas.List.{get_or-set_same, get_or_push, length-set, length_push}
use Rattle.std.proofs.lemmas.List.Elements.{All-from_recursion}
use Rattle.inst_text.specs.declared.shop.Operation.{Operation}
use Rattle.inst_text.specs.Shop.{JobShop, IsJobShop}
use Rattle.bb_shop.specs.Plans.{row_at, step_at, end_at, IsOperation, AreShaped, row_end, rows_end, makespan}
use Rattle.bb_shop.specs.Dispatching.{State, opened, number_in, starts_of, next_of, next_start, next_end, dispatched}
use Rattle.bb_shop.specs.Dispatching.{state_of, IsLeft, IsOrder}
use Rattle.bb_shop.specs.TreeLawsHold.States.{starts-dispatched, job-same, job-other, machine-same, machine-other}
use Rattle.bb_shop.specs.TreeLawsHold.States.{IsState, job-opened, machine-opened, IsState-opened, IsState-dispatched}
use Rattle.bb_shop.specs.TreeLawsHold.States.{kept, row-length, next_machine-lt}

-- one start time more
row_end_grows : (os : List Operation) (ts : List ℕ) (t : ℕ) → row_end os ts ≤ row_end os (ts ++ t ∷ [])
row_end_grows [] ts t = omega arith
row_end_grows (o ∷ os) [] t = omega arith
row_end_grows (o ∷ os) (x ∷ ts) t = omega (arith, row_end_grows os ts t)

-- each end of a row is at most its greatest
pub end-le-row_end : (os : List Operation) (ts : List ℕ) (k : ℕ) → k < length os → k < length ts
    → get_or ts k 0 + (step_at os k).time ≤ row_end os ts
end-le-row_end [] ts k inside timed = absurd (omega (arith, inside))
end-le-row_end (o ∷ os) [] k inside timed = absurd (omega (arith, timed))
end-le-row_end (o ∷ os) (t ∷ ts) zero inside timed = omega arith
end-le-row_end (o ∷ os) (t ∷ ts) (suc k) inside timed =
    omega (arith, end-le-row_end os ts k (omega (arith, inside)) (omega (arith, timed)))

last-le-row_end : (os : List Operation) (ts : List ℕ) (t : ℕ) → length ts < length os
    → t + (step_at os (length ts)).time ≤ row_end os (ts ++ t ∷ [])
last-le-row_end os ts t lt =
    omega (
      arith,
      end-le-row_end os (ts ++ t ∷ []) (length ts) lt
          (omega (arith, length_push ts t)),
      get_or_push ts t 0 (length ts) refl,
    )

-- one row of start times in place of another
rows_end_grows : (rows : List (List Operation)) (starts : List (List ℕ)) (j : ℕ) (ts : List ℕ)
    → row_end (row_at rows j) (get_or starts j []) ≤ row_end (row_at rows j) ts
    → rows_end rows starts ≤ rows_end rows (set starts j ts)
rows_end_grows [] starts j ts le = omega arith
rows_end_grows (r ∷ rows) [] j ts le = omega arith
rows_end_grows (r ∷ rows) (x ∷ starts) zero ts le = omega (arith, le)
rows_end_grows (r ∷ rows) (x ∷ starts) (suc j) ts le = omega (arith, rows_end_grows rows starts j ts le)

pub row-le-rows_end : (rows : List (List Operation)) (starts : List (List ℕ)) (j : ℕ) → j < length rows
    → j < length starts → row_end (row_at rows j) (get_or starts j []) ≤ rows_end rows starts
row-le-rows_end [] starts j row start = absurd (omega (arith, row))
row-le-rows_end (r ∷ rows) [] j row start = absurd (omega (arith, start))
row-le-rows_end (r ∷ rows) (x ∷ starts) zero row start = omega arith
row-le-rows_end (r ∷ rows) (x ∷ starts) (suc j) row start =
    omega (arith, row-le-rows_end rows starts j (omega (arith, row)) (omega (arith, start)))

pub makespan_grows : (s : JobShop) (st : State) (j : ℕ) → makespan s st.starts ≤ makespan s (dispatched s st j).starts
makespan_grows s st j =
    rw (starts-dispatched s st j)
    (rows_end_grows s.rows st.starts j (starts_of st j ++ next_start s st j ∷ [])
    (row_end_grows (row_at s.rows j) (starts_of st j) (next_start s st j)))

pub next_end-le-makespan : (s : JobShop) (st : State) (j : ℕ) → IsJobShop s → IsState s st → IsLeft s st j
    → next_end s st j ≤ makespan s (dispatched s st j).starts
next_end-le-makespan s st j shop is left =
    let row = starts_of st j ++ next_start s st j ∷ [] in
    let inside : j < length st.starts = omega (arith, is.starts, left.0) in
    let last : next_end s st j ≤ row_end (row_at s.rows j) row =
    last-le-row_end (row_at s.rows j) (starts_of st j) (next_start s st j)
    (omega (arith, row-length s j shop left.0, left.1)) in
    let whole =
    row-le-rows_end s.rows (set st.starts j row) j left.0 (omega (arith, length-set st.starts j row, inside)) in
    let placed : row_end (row_at s.rows j) row ≤ rows_end s.rows (set st.starts j row) =
    rw (get_or-set_same st.starts j row [] inside) at whole in
    rw (starts-dispatched s st j) (omega (arith, last, placed))

-- no job and no machine is ready after the makespan
pub record AreReady (s : JobShop) (st : State) : Type 0 where
  pub state : IsState s st
  pub jobs : (k : ℕ) → number_in st.jobs k ≤ makespan s st.starts
  pub machines : (m : ℕ) → number_in st.machines m ≤ makespan s st.starts

AreReady-opened : (s : JobShop) → AreReady s (opened s)
AreReady-opened s = record {
  state = IsState-opened s;
  jobs = λ k. omega (arith, job-opened s k);
  machines = λ m. omega (arith, machine-opened s m);
}

job_within : (s : JobShop) (st : State) (j k : ℕ) → IsJobShop s → AreReady s st → IsLeft s st j
    → number_in (dispatched s st j).jobs k ≤ makespan s (dispatched s st j).starts
job_within s st j k shop are left =
    elim (cases_eq k j) [
      | inl same ↦ rw same
          (omega (
            arith,
            job-same s st j
                (omega (arith, are.state.jobs, left.0)),
            next_end-le-makespan s st j shop are.state left,
          ))
      | inr other ↦ omega (arith, job-other s st j k other, are.jobs k, makespan_grows s st j)
    ]

machine_within : (s : JobShop) (st : State) (j m : ℕ) → IsJobShop s → AreReady s st → IsLeft s st j
    → number_in (dispatched s st j).machines m ≤ makespan s (dispatched s st j).starts
machine_within s st j m shop are left =
    elim (cases_eq m (next_of s st j).machine) [
      | inl same ↦ rw same
          (omega (
            arith,
            machine-same s st j
                (omega (arith, are.state.machines, next_machine-lt s st j shop left)),
            next_end-le-makespan s st j shop
                are.state left,
          ))
      | inr other ↦ omega (arith, machine-other s st j m other, are.machines m, makespan_grows s st j)
    ]

AreReady-dispatched : (s : JobShop) (st : State) (j : ℕ) → IsJobShop s → AreReady s st → IsLeft s st j
    → AreReady s (dispatched s st j)
AreReady-dispatched s st j shop are left = record {
  state = IsState-dispatched s st j are.state left;
  jobs = λ k. job_within s st j k shop are left;
  machines = λ m. machine_within s st j m shop are left;
}

pub AreReady-of : (s : JobShop) (name : List ℕ) → IsJobShop s → IsOrder s name → AreReady s (state_of s name)
AreReady-of s name shop order = kept s (AreReady s) (λ st j are left. AreReady-dispatched s st j shop are left)
    (opened s) name (AreReady-opened s) order

-- a plan has as many start times of a job as there are machines
pub length-times : (s : JobShop) (plan : List (List ℕ)) (j : ℕ) → AreShaped s plan → j < length s.rows
    → length (get_or plan j []) ≡ s.machines
length-times s plan j shaped row = All-from_recursion (λ (ts : List ℕ). length ts ≡ s.machines) plan shaped.times j []
    (omega (arith, row, shaped.rows))

-- no operation ends after the makespan
pub end_within_makespan : (s : JobShop) (starts : List (List ℕ)) (j k : ℕ) → IsJobShop s → AreShaped s starts
    → IsOperation s j k → end_at s starts j k ≤ makespan s starts
end_within_makespan s starts j k shop shaped operation =
    let row = end-le-row_end (row_at s.rows j) (get_or starts j []) k
    (omega (arith, row-length s j shop operation.0, operation.1))
    (omega (arith, length-times s starts j shaped operation.0, operation.1)) in
    omega (arith, row, row-le-rows_end s.rows starts j operation.0 (omega (arith, shaped.rows, operation.0)))
