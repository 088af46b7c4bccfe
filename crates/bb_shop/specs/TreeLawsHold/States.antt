-- What dispatching makes of a state, what every dispatching keeps, and how many jobs an order has.
use Rattle.std.proofs.Common.{◌≡◌, ◌≢◌, ℕ, zero, suc, ◌+◌, ◌*◌, ◌<◌, ◌≤◌, List, [], ◌∷◌, ◌++◌, inl, inr, refl, sym, ap}
use Rattle.std.proofs.Common.{◌∙◌, length, get_or, set, replicate, arith}
use Rattle.std.specs.List.{AllByRecursion, sum_by}
use Rattle.std.proofs.lemmas.Bool.{cases_lt, cases_eq}
use Rattle.std.proofs.lemmas.List.{length-set, length-replicate, length_push, get_or-replicate, get_or_past}
use Rattle.std.proofs.lemmas.List.{get_or_default, get_or-set_same, get_or-set_other}
use Rattle.std.proofs.lemmas.List.Elements.{All-from_recursion, recursion_from_All}
use Rattle.std.proofs.lemmas.List.Sums.{sum_by-set, sum_by-cons}
use Rattle.bb_problem.specs.Tree.{below}
use Rattle.inst_text.specs.declared.shop.Operation.{Operation}
use Rattle.inst_text.specs.Shop.{JobShop, operations, IsJobShop}
use Rattle.bb_shop.specs.Plans.{row_at, operation_at, AreShaped}
use Rattle.bb_shop.specs.Dispatching.{State, opened, number_in, starts_of, step_of, next_of, next_start, next_end}
use Rattle.bb_shop.specs.Dispatching.{dispatched, state_from, state_of, IsLeft, AreLeft, IsOrder}

-- a list of one element, at any place
pub get_or-same : {X : Type 0} (n k : ℕ) (x : X) → get_or (replicate n x) k x ≡ x
get_or-same n k x =
    elim (cases_lt k n) [
      | inl lt ↦ get_or-replicate n k x x lt
      | inr le ↦ get_or_past (replicate n x) k x (omega (arith, length-replicate n x, le))
    ]

-- the lists of a state after one dispatching
pub starts-dispatched : (s : JobShop) (st : State) (j : ℕ)
    → (dispatched s st j).starts ≡ set st.starts j (starts_of st j ++ next_start s st j ∷ [])
unfolding dispatched
starts-dispatched s st j = refl

pub jobs-dispatched : (s : JobShop) (st : State) (j : ℕ) → (dispatched s st j).jobs ≡ set st.jobs j (next_end s st j)
unfolding dispatched
jobs-dispatched s st j = refl

pub machines-dispatched : (s : JobShop) (st : State) (j : ℕ)
    → (dispatched s st j).machines ≡ set st.machines (next_of s st j).machine (next_end s st j)
unfolding dispatched
machines-dispatched s st j = refl

-- one list of jobs after another
pub state_from-append : (s : JobShop) (st : State) (xs ys : List ℕ)
    → state_from s st (xs ++ ys) ≡ state_from s (state_from s st xs) ys
unfolding state_from
state_from-append s st [] ys = refl
state_from-append s st (x ∷ xs) ys = state_from-append s (dispatched s st x) xs ys

pub state_from-cons : (s : JobShop) (st : State) (x : ℕ) (xs : List ℕ)
    → state_from s st (x ∷ xs) ≡ state_from s (dispatched s st x) xs
unfolding state_from
state_from-cons s st x xs = refl

pub state_of-nil : (s : JobShop) → state_of s [] ≡ opened s
unfolding state_from
state_of-nil s = refl

pub state_of-below : (s : JobShop) (name : List ℕ) (k : ℕ)
    → state_of s (below name k) ≡ dispatched s (state_of s name) k
unfolding state_from
state_of-below s name k = state_from-append s (opened s) name (k ∷ [])

pub AreLeft-append : (s : JobShop) (st : State) (xs ys : List ℕ) → AreLeft s st xs → AreLeft s (state_from s st xs) ys
    → AreLeft s st (xs ++ ys)
unfolding state_from
AreLeft-append s st [] ys first rest = rest
AreLeft-append s st (x ∷ xs) ys first rest = (first.0, AreLeft-append s (dispatched s st x) xs ys first.1 rest)

pub AreLeft-first : (s : JobShop) (st : State) (xs ys : List ℕ) → AreLeft s st (xs ++ ys) → AreLeft s st xs
AreLeft-first s st [] ys both = tt
AreLeft-first s st (x ∷ xs) ys both = (both.0, AreLeft-first s (dispatched s st x) xs ys both.1)

pub AreLeft-rest : (s : JobShop) (st : State) (xs ys : List ℕ) → AreLeft s st (xs ++ ys)
    → AreLeft s (state_from s st xs) ys
unfolding state_from
AreLeft-rest s st [] ys both = both
AreLeft-rest s st (x ∷ xs) ys both = AreLeft-rest s (dispatched s st x) xs ys both.1

pub IsOrder-below : (s : JobShop) (name : List ℕ) (k : ℕ) → IsOrder s name → IsLeft s (state_of s name) k
    → IsOrder s (below name k)
IsOrder-below s name k order left = AreLeft-append s (opened s) name (k ∷ []) order (left, tt)

-- what one dispatching keeps, all keep
pub kept : (s : JobShop) (P : State → Type 0) → ((st : State) (j : ℕ) → P st → IsLeft s st j → P (dispatched s st j))
    → (st : State) (js : List ℕ) → P st → AreLeft s st js → P (state_from s st js)
unfolding state_from
kept s P each st [] before left = before
kept s P each st (j ∷ js) before left = kept s P each (dispatched s st j) js (each st j before left.0) left.1

-- the start times of the job that is dispatched, and of the others
pub starts_of-same : (s : JobShop) (st : State) (j : ℕ) → j < length st.starts
    → starts_of (dispatched s st j) j ≡ starts_of st j ++ next_start s st j ∷ []
unfolding dispatched
starts_of-same s st j lt = get_or-set_same st.starts j (starts_of st j ++ next_start s st j ∷ []) [] lt

pub starts_of-other : (s : JobShop) (st : State) (j k : ℕ) → k ≢ j → starts_of (dispatched s st j) k ≡ starts_of st k
unfolding dispatched
starts_of-other s st j k other = get_or-set_other st.starts j k (starts_of st j ++ next_start s st j ∷ []) [] other

pub step_of-same : (s : JobShop) (st : State) (j : ℕ) → j < length st.starts
    → step_of (dispatched s st j) j ≡ step_of st j + 1
step_of-same s st j lt = rw (starts_of-same s st j lt) (length_push (starts_of st j) (next_start s st j))

pub step_of-other : (s : JobShop) (st : State) (j k : ℕ) → k ≢ j → step_of (dispatched s st j) k ≡ step_of st k
step_of-other s st j k other = rw (starts_of-other s st j k other) refl

-- when jobs and machines are ready
pub job-same : (s : JobShop) (st : State) (j : ℕ) → j < length st.jobs
    → number_in (dispatched s st j).jobs j ≡ next_end s st j
unfolding dispatched
job-same s st j lt = get_or-set_same st.jobs j (next_end s st j) 0 lt

pub job-other : (s : JobShop) (st : State) (j k : ℕ) → k ≢ j
    → number_in (dispatched s st j).jobs k ≡ number_in st.jobs k
unfolding dispatched
job-other s st j k other = get_or-set_other st.jobs j k (next_end s st j) 0 other

pub machine-same : (s : JobShop) (st : State) (j : ℕ) → (next_of s st j).machine < length st.machines
    → number_in (dispatched s st j).machines (next_of s st j).machine ≡ next_end s st j
unfolding dispatched
machine-same s st j lt = get_or-set_same st.machines (next_of s st j).machine (next_end s st j) 0 lt

pub machine-other : (s : JobShop) (st : State) (j m : ℕ) → m ≢ (next_of s st j).machine
    → number_in (dispatched s st j).machines m ≡ number_in st.machines m
unfolding dispatched
machine-other s st j m other = get_or-set_other st.machines (next_of s st j).machine m (next_end s st j) 0 other

-- The lists of a state have the shop's lengths, and no job has more start times than operations.
pub record IsState (s : JobShop) (st : State) : Type 0 where
  pub starts : length st.starts ≡ length s.rows
  pub jobs : length st.jobs ≡ length s.rows
  pub machines : length st.machines ≡ s.machines
  pub steps : (j : ℕ) → step_of st j ≤ s.machines

-- at the beginning nothing is dispatched, and all are ready at 0
pub starts_of-opened : (s : JobShop) (j : ℕ) → starts_of (opened s) j ≡ []
starts_of-opened s j = get_or-same (length s.rows) j []

pub step_of-opened : (s : JobShop) (j : ℕ) → step_of (opened s) j ≡ 0
step_of-opened s j = rw (starts_of-opened s j) refl

pub job-opened : (s : JobShop) (j : ℕ) → number_in (opened s).jobs j ≡ 0
job-opened s j = get_or-same (length s.rows) j 0

pub machine-opened : (s : JobShop) (m : ℕ) → number_in (opened s).machines m ≡ 0
machine-opened s m = get_or-same s.machines m 0

pub IsState-opened : (s : JobShop) → IsState s (opened s)
IsState-opened s = record {
  starts = length-replicate (length s.rows) [];
  jobs = length-replicate (length s.rows) 0;
  machines = length-replicate s.machines 0;
  steps = λ j. omega (arith, step_of-opened s j);
}

step_of-within : (s : JobShop) (st : State) (j k : ℕ) → IsState s st → IsLeft s st j
    → step_of (dispatched s st j) k ≤ s.machines
step_of-within s st j k is left =
    elim (cases_eq k j) [
      | inl same ↦ rw same (omega (arith, step_of-same s st j (omega (arith, is.starts, left.0)), left.1))
      | inr other ↦ omega (arith, step_of-other s st j k other, is.steps k)
    ]

pub IsState-dispatched : (s : JobShop) (st : State) (j : ℕ) → IsState s st → IsLeft s st j
    → IsState s (dispatched s st j)
IsState-dispatched s st j is left = record {
  starts = ap length (starts-dispatched s st j) ∙ length-set st.starts j (starts_of st j ++ next_start s st j ∷ [])
      ∙ is.starts;
  jobs = ap length (jobs-dispatched s st j) ∙ length-set st.jobs j (next_end s st j) ∙ is.jobs;
  machines = ap length (machines-dispatched s st j)
      ∙ length-set st.machines (next_of s st j).machine (next_end s st j) ∙ is.machines;
  steps = λ k. step_of-within s st j k is left;
}

pub IsState-from : (s : JobShop) (st : State) (js : List ℕ) → IsState s st → AreLeft s st js
    → IsState s (state_from s st js)
IsState-from s = kept s (IsState s) (IsState-dispatched s)

pub IsState-of : (s : JobShop) (name : List ℕ) → IsOrder s name → IsState s (state_of s name)
IsState-of s name order = IsState-from s (opened s) name (IsState-opened s) order

-- how many start times there are
abbrev pub dispatches : List (List ℕ) → ℕ
dispatches rows = sum_by (λ (row : List ℕ). length row) rows

dispatches-cons : (row : List ℕ) (rows : List (List ℕ)) → dispatches (row ∷ rows) ≡ length row + dispatches rows
dispatches-cons row rows = sum_by-cons (λ (r : List ℕ). length r) row rows

dispatches-empty : (n : ℕ) → dispatches (replicate n []) ≡ 0
dispatches-empty zero = refl
dispatches-empty (suc n) = omega (arith, dispatches-empty n, dispatches-cons [] (replicate n []))

pub dispatches-more : (s : JobShop) (st : State) (j : ℕ) → j < length st.starts
    → dispatches (dispatched s st j).starts ≡ dispatches st.starts + 1
unfolding dispatched
dispatches-more s st j lt =
    let row = starts_of st j ++ next_start s st j ∷ [] in
    omega (
      arith,
      sum_by-set (λ (r : List ℕ). length r) st.starts j row [] lt,
      length_push (starts_of st j)
          (next_start s st j),
    )

pub dispatches-from : (s : JobShop) (st : State) (js : List ℕ) → IsState s st → AreLeft s st js
    → dispatches (state_from s st js).starts ≡ dispatches st.starts + length js
unfolding state_from
dispatches-from s st [] is left = omega arith
dispatches-from s st (j ∷ js) is left =
    omega (
      arith,
      dispatches-from s (dispatched s st j) js
          (IsState-dispatched s st j is left.0) left.1,
      dispatches-more s st j (omega (arith, is.starts, left.0.0)),
    )

pub dispatches-of : (s : JobShop) (name : List ℕ) → IsOrder s name → dispatches (state_of s name).starts ≡ length name
dispatches-of s name order =
    omega (arith, dispatches-from s (opened s) name (IsState-opened s) order, dispatches-empty (length s.rows))

-- as many start times as there can be leave no row short, and fewer leave a short one
few : (m : ℕ) (rows : List (List ℕ)) → AllByRecursion (λ (row : List ℕ). length row ≤ m) rows
    → dispatches rows ≤ length rows * m
few m [] each = omega arith
few m (row ∷ rows) each = omega (arith, each.0, few m rows each.1, dispatches-cons row rows)

all_full : (m : ℕ) (rows : List (List ℕ)) → AllByRecursion (λ (row : List ℕ). length row ≤ m) rows
    → dispatches rows ≡ length rows * m → AllByRecursion (λ (row : List ℕ). length row ≡ m) rows
all_full m [] each e = tt
all_full m (row ∷ rows) each e =
    let sum = dispatches-cons row rows in (
      omega (arith, each.0, few m rows each.1, e, sum),
      all_full m rows each.1
          (omega (arith, each.0, few m rows each.1, e, sum)),
    )

-- the place of a row that is short
record Short (m : ℕ) (rows : List (List ℕ)) : Type 0 where
  place : ℕ
  inside : place < length rows
  short : length (get_or rows place []) < m

some_short : (m : ℕ) (rows : List (List ℕ)) → dispatches rows < length rows * m → Short m rows
some_short m [] lt = absurd (omega (arith, lt))
some_short m (row ∷ rows) lt =
    elim (cases_lt (length row) m) [
      | inl short ↦ record { place = 0; inside = omega arith; short = short }
      | inr full ↦
          let rest = some_short m rows (omega (arith, lt, full, dispatches-cons row rows)) in
          record { place = suc rest.place; inside = omega (arith, rest.inside); short = rest.short }
    ]

rows_within : (s : JobShop) (st : State) → IsState s st
    → AllByRecursion (λ (row : List ℕ). length row ≤ s.machines) st.starts
rows_within s st is =
    recursion_from_All
    (λ (row : List ℕ). length row ≤ s.machines)
    st.starts
    (λ k d lt. omega (arith, is.steps k, ap (λ (row : List ℕ). length row) (get_or_default st.starts k d [] lt)))

-- an order is at most as long as there are operations
pub length-order : (s : JobShop) (name : List ℕ) → IsOrder s name → length name ≤ operations s
length-order s name order =
    let is = IsState-of s name order in
    let e : length (state_of s name).starts * s.machines ≡ length s.rows * s.machines =
    ap (λ n. n * s.machines) is.starts in
    omega (
      arith,
      dispatches-of s name order,
      few s.machines (state_of s name).starts
          (rows_within s (state_of s name) is),
      e,
    )

-- an order of all operations leaves none out
pub whole_is_shaped : (s : JobShop) (name : List ℕ) → IsOrder s name → length name ≡ operations s
    → AreShaped s (state_of s name).starts
whole_is_shaped s name order whole =
    let is = IsState-of s name order in
    let e : length (state_of s name).starts * s.machines ≡ length s.rows * s.machines =
    ap (λ n. n * s.machines) is.starts in
    record {
      rows = is.starts;
      times = all_full s.machines (state_of s name).starts (rows_within s (state_of s name) is)
          (dispatches-of s name order ∙ whole ∙ sym e);
    }

-- while an order is shorter, some job is left
pub some_left : (s : JobShop) (name : List ℕ) → IsOrder s name → length name < operations s → (k : ℕ)
    × IsLeft s (state_of s name) k
some_left s name order short =
    let is = IsState-of s name order in
    let e : length (state_of s name).starts * s.machines ≡ length s.rows * s.machines =
    ap (λ n. n * s.machines) is.starts in
    let one = some_short s.machines (state_of s name).starts (omega (arith, dispatches-of s name order, short, e)) in
    (one.place, (omega (arith, one.inside, is.starts), one.short))

-- an operation of a shop is on one of its machines, and each job has as many operations as there are machines
pub row-length : (s : JobShop) (j : ℕ) → IsJobShop s → j < length s.rows → length (row_at s.rows j) ≡ s.machines
row-length s j shop lt =
    All-from_recursion (λ (row : List Operation). length row ≡ s.machines) s.rows shop.steps j [] lt

pub machine-lt : (s : JobShop) (j k : ℕ) → IsJobShop s → j < length s.rows → k < s.machines
    → (operation_at s j k).machine < s.machines
machine-lt s j k shop row step =
    All-from_recursion
    (λ (o : Operation). o.machine < s.machines)
    (row_at s.rows j)
    (All-from_recursion (λ (row : List Operation). AllByRecursion (λ (o : Operation). o.machine < s.machines) row)
    s.rows shop.named j [] row)
    k
    (record { machine = 0; time = 0 })
    (omega (arith, row-length s j shop row, step))

pub next_machine-lt : (s : JobShop) (st : State) (j : ℕ) → IsJobShop s → IsLeft s st j
    → (next_of s st j).machine < s.machines
next_machine-lt s st j shop left = machine-lt s j (step_of st j) shop left.0 left.1
