-- The operations of a machine: where they stand in their jobs, and when a plan that a node reaches starts and ends
-- them.
use Rattle.std.proofs.Common.{◌≡◌, ℕ, zero, suc, ◌+◌, ◌<◌, ◌≤◌, inl, inr, List, [], ◌∷◌, ◌++◌, refl, sym, ap, ◌∙◌}
use Rattle.std.proofs.Common.{subst, length, get_or, drop, arith}
use Rattle.std.specs.Prelude.{nat_eq, All, AllPairs}
use Rattle.std.proofs.lemmas.Bool.{cond-true, cond-false}
use Rattle.std.proofs.lemmas.Bool.Decides.{eqb_tells}
use Rattle.std.proofs.lemmas.List.{drop_more, length-drop}
use Rattle.std.proofs.lemmas.List.Elements.{All-nil, All-cons, All-head, All-tail, All-weaker, All-append}
use Rattle.std.proofs.lemmas.List.Kept.{AllPairs-cons}
use Rattle.inst_text.specs.declared.shop.Operation.{Operation}
use Rattle.inst_text.specs.Shop.{JobShop, IsJobShop, row_time}
use Rattle.bb_shop.specs.Plans.{step_at, row_at, operation_at, start_at, end_at, IsOperation, IsBefore, IsFeasible}
use Rattle.bb_shop.specs.Plans.{makespan}
use Rattle.bb_shop.specs.Dispatching.{number_in}
use Rattle.bb_shop.specs.Bounds.{head_of}
use Rattle.bb_shop.specs.TreeLawsHold.States.{row-length}
use Rattle.bb_shop.specs.TreeLawsHold.Ended.{end_within_makespan}
use Rattle.bb_onemach.specs.declared.visit.Visit.{Visit}
use Rattle.bb_onemach.specs.Visits.{row_visits, rows_visits, visits, heads}
use Rattle.bb_onemach.specs.TreeLawsHold.Packing.{pairs-first, pairs-rest}

-- what is left from step k on: the operation at step k, and what is left after it
record Next (row : List Operation) (k : ℕ) (o : Operation) (os : List Operation) : Type 0 where
  inside : k < length row
  here : step_at row k ≡ o
  rest : os ≡ drop (k + 1) row

next_is : (row : List Operation) (k : ℕ) (o : Operation) (os : List Operation) → o ∷ os ≡ drop k row → Next row k o os
next_is row k o os is =
    let none : Operation = record { machine = 0; time = 0 } in
    let inside : k < length row = omega (arith, ap (λ (xs : List Operation). length xs) is, length-drop k row) in
    let split : o ∷ os ≡ get_or row k none ∷ drop (k + 1) row = is ∙ drop_more row k none inside in
    record {
      inside = inside;
      here = sym (ap (λ (xs : List Operation). get_or xs 0 none) split);
      rest = ap (λ (xs : List Operation). drop 1 xs) split;
    }

-- an operation of job j on machine m, at step k or later
record IsOfRow (m j : ℕ) (row : List Operation) (k : ℕ) (v : Visit) : Type 0 where
  job : v.job ≡ j
  inside : v.step < length row
  later : k ≤ v.step
  machine : (step_at row v.step).machine ≡ m
  time : v.time ≡ (step_at row v.step).time
  tail : v.tail ≡ row_time (drop (v.step + 1) row)

of_row_sooner : (m j : ℕ) (row : List Operation) (k : ℕ) (v : Visit) → IsOfRow m j row (k + 1) v → IsOfRow m j row k v
of_row_sooner m j row k v is = record {
  job = is.job;
  inside = is.inside;
  later = omega (arith, is.later);
  machine = is.machine;
  time = is.time;
  tail = is.tail;
}

pub row_visits-same : (m j k : ℕ) (o : Operation) (os : List Operation) → o.machine ≡ m
    → (let v : Visit = record { job = j; step = k; time = o.time; tail = row_time os } in
    row_visits m j k (o ∷ os) ≡ v ∷ row_visits m j (k + 1) os)
unfolding row_visits
row_visits-same m j k o os same =
    elim (eqb_tells o.machine m) [
      | inl is ↦ cond-true (nat_eq o.machine m) (record {
        job = j;
        step = k;
        time = o.time;
        tail = row_time os;
      } ∷ row_visits m j (k + 1) os) (row_visits m j (k + 1) os) is.0
      | inr is ↦ absurd (is.1 same)
    ]

pub row_visits-other : (m j k : ℕ) (o : Operation) (os : List Operation) → (o.machine ≡ m → ⊥)
    → row_visits m j k (o ∷ os) ≡ row_visits m j (k + 1) os
unfolding row_visits
row_visits-other m j k o os other =
    elim (eqb_tells o.machine m) [
      | inl is ↦ absurd (other is.1)
      | inr is ↦ cond-false (nat_eq o.machine m) (record {
        job = j;
        step = k;
        time = o.time;
        tail = row_time os;
      } ∷ row_visits m j (k + 1) os) (row_visits m j (k + 1) os) is.0
    ]

pub row_visits-nil : (m j k : ℕ) → row_visits m j k [] ≡ []
unfolding row_visits
row_visits-nil m j k = refl

abbrev IsVisitBefore : Visit → Visit → Type 0
IsVisitBefore v w = IsBefore v.job v.step w.job w.step

record AreOfRow (m j : ℕ) (row : List Operation) (k : ℕ) (vs : List Visit) : Type 0 where
  each : All (IsOfRow m j row k) vs
  pairs : AllPairs IsVisitBefore vs

none_of_row : (m j : ℕ) (row : List Operation) (k : ℕ) → AreOfRow m j row k []
none_of_row m j row k = record {
  each = All-nil (IsOfRow m j row k);
  pairs = λ (a b : ℕ) d lt (inside : b < 0). absurd (omega (arith, inside));
}

one_more : (m j : ℕ) (row : List Operation) (k : ℕ) (o : Operation) (os : List Operation) (vs : List Visit)
    → Next row k o os → o.machine ≡ m → AreOfRow m j row (k + 1) vs
    → AreOfRow m j row k (record { job = j; step = k; time = o.time; tail = row_time os } ∷ vs)
one_more m j row k o os vs next same are =
    let v : Visit = record { job = j; step = k; time = o.time; tail = row_time os } in
    let here : IsOfRow m j row k v = record {
      job = refl;
      inside = next.inside;
      later = omega arith;
      machine = ap (λ (x : Operation). x.machine) next.here ∙ same;
      time = sym (ap (λ (x : Operation). x.time) next.here);
      tail = ap row_time next.rest;
    } in
    record {
      each = All-cons (IsOfRow m j row k) v vs here (All-weaker (IsOfRow m j row (k + 1)) (IsOfRow m j row k)
          (of_row_sooner m j row k) vs are.each);
      pairs =
          AllPairs-cons IsVisitBefore v vs
          (All-weaker (IsOfRow m j row (k + 1)) (IsVisitBefore v)
          (λ w is. inr (sym is.job, omega (arith, is.later))) vs are.each) are.pairs;
    }

row_visits_are : (m j : ℕ) (row : List Operation) (k : ℕ) (os : List Operation) → os ≡ drop k row
    → AreOfRow m j row k (row_visits m j k os)
row_visits_are m j row k [] is = subst (AreOfRow m j row k) (sym (row_visits-nil m j k)) (none_of_row m j row k)
row_visits_are m j row k (o ∷ os) is =
    let next = next_is row k o os is in
    let rest = row_visits_are m j row (k + 1) os next.rest in
    elim (eqb_tells o.machine m) [
      | inl same ↦ subst (AreOfRow m j row k) (sym (row_visits-same m j k o os same.1))
          (one_more m j row k o os (row_visits m j (k + 1) os) next same.1 rest)
      | inr other ↦
          subst (AreOfRow m j row k) (sym (row_visits-other m j k o os other.1))
          (record {
            each = All-weaker (IsOfRow m j row (k + 1)) (IsOfRow m j row k) (of_row_sooner m j row k)
                (row_visits m j (k + 1) os) rest.each;
            pairs = rest.pairs;
          })
    ]

-- an operation of the shop on machine m
pub record IsVisit (s : JobShop) (m : ℕ) (v : Visit) : Type 0 where
  pub operation : IsOperation s v.job v.step
  pub machine : (operation_at s v.job v.step).machine ≡ m
  pub time : v.time ≡ (operation_at s v.job v.step).time
  pub tail : v.tail ≡ row_time (drop (v.step + 1) (row_at s.rows v.job))

record AreOfRows (s : JobShop) (m j : ℕ) (vs : List Visit) : Type 0 where
  each : All (IsVisit s m) vs
  later : All (λ (v : Visit). j ≤ v.job) vs
  pairs : AllPairs IsVisitBefore vs

pairs-append : {X : Type 0} (R : X → X → Type 0) (xs ys : List X) → AllPairs R xs → AllPairs R ys
    → All (λ x. All (R x) ys) xs → AllPairs R (xs ++ ys)
pairs-append R [] ys one other across = other
pairs-append R (x ∷ xs) ys one other across =
    AllPairs-cons R x (xs ++ ys)
    (All-append (R x) xs ys (pairs-first R x xs one) (All-head (λ z. All (R z) ys) x xs across))
    (pairs-append R xs ys (pairs-rest R x xs one) other (All-tail (λ z. All (R z) ys) x xs across))

pub rows_visits-cons : (m j : ℕ) (r : List Operation) (rs : List (List Operation))
    → rows_visits m j (r ∷ rs) ≡ row_visits m j 0 r ++ rows_visits m (j + 1) rs
unfolding rows_visits
rows_visits-cons m j r rs = refl

pub rows_visits-nil : (m j : ℕ) → rows_visits m j [] ≡ []
unfolding rows_visits
rows_visits-nil m j = refl

of_row_is : (s : JobShop) (m j : ℕ) (row : List Operation) (v : Visit) → IsJobShop s → j < length s.rows
    → row ≡ row_at s.rows j → IsOfRow m j row 0 v → IsVisit s m v
of_row_is s m j row v shop lt same is =
    let at : row_at s.rows v.job ≡ row = ap (row_at s.rows) is.job ∙ sym same in
    record {
      operation = (
        omega (arith, lt, is.job),
        omega
            (arith, is.inside, ap (λ (xs : List Operation). length xs) same, row-length s j shop lt),
      );
      machine = ap (λ (xs : List Operation). (step_at xs v.step).machine) at ∙ is.machine;
      time = is.time ∙ sym (ap (λ (xs : List Operation). (step_at xs v.step).time) at);
      tail = is.tail ∙ sym (ap (λ (xs : List Operation). row_time (drop (v.step + 1) xs)) at);
    }

rows_visits_are : (s : JobShop) (m j : ℕ) (rows : List (List Operation)) → IsJobShop s → rows ≡ drop j s.rows
    → AreOfRows s m j (rows_visits m j rows)
rows_visits_are s m j [] shop is = subst (AreOfRows s m j) (sym (rows_visits-nil m j)) (record {
  each = All-nil (IsVisit s m);
  later = All-nil (λ (v : Visit). j ≤ v.job);
  pairs = λ (a b : ℕ) d lt (inside : b < 0). absurd (omega (arith, inside));
})
rows_visits_are s m j (r ∷ rs) shop is =
    let inside : j < length s.rows =
    omega (arith, ap (λ (xs : List (List Operation)). length xs) is, length-drop j s.rows) in
    let split : r ∷ rs ≡ row_at s.rows j ∷ drop (j + 1) s.rows = is ∙ drop_more s.rows j [] inside in
    let row : r ≡ row_at s.rows j = ap (λ (xs : List (List Operation)). get_or xs 0 []) split in
    let rest : rs ≡ drop (j + 1) s.rows = ap (λ (xs : List (List Operation)). drop 1 xs) split in
    let here = row_visits_are m j r 0 r refl in
    let behind = rows_visits_are s m (j + 1) rs shop rest in
    let vs = row_visits m j 0 r in
    let ws = rows_visits m (j + 1) rs in
    subst (AreOfRows s m j) (sym (rows_visits-cons m j r rs)) (record {
      each = All-append (IsVisit s m) vs ws
          (All-weaker (IsOfRow m j r 0) (IsVisit s m) (λ v of. of_row_is s m j r v shop inside row of) vs here.each)
          behind.each;
      later =
          All-append (λ (v : Visit). j ≤ v.job) vs ws (All-weaker (IsOfRow m j r 0) (λ (v : Visit). j ≤ v.job)
          (λ v of. omega (arith, of.job)) vs here.each)
          (All-weaker (λ (v : Visit). j + 1 ≤ v.job) (λ (v : Visit). j ≤ v.job)
          (λ v le. omega (arith, le)) ws behind.later);
      pairs =
          pairs-append IsVisitBefore vs ws here.pairs behind.pairs
          (All-weaker (IsOfRow m j r 0) (λ v. All (IsVisitBefore v) ws)
          (λ v of. All-weaker (λ (w : Visit). j + 1 ≤ w.job) (IsVisitBefore v)
          (λ w le. inl (omega (arith, of.job, le))) ws behind.later) vs here.each);
    })

pub visits_are : (s : JobShop) (m : ℕ) → IsJobShop s → All (IsVisit s m) (visits s m)
visits_are s m shop = (rows_visits_are s m 0 s.rows shop refl).each

pub visits_in_order : (s : JobShop) (m : ℕ) → IsJobShop s
    → AllPairs (λ (v w : Visit). IsBefore v.job v.step w.job w.step) (visits s m)
visits_in_order s m shop = (rows_visits_are s m 0 s.rows shop refl).pairs

-- The heads of a job's operations are no later than a plan starts them that starts none before its job and its machine
-- are ready.
pub heads-le : (s : JobShop) (plan : List (List ℕ)) (machines : List ℕ) (j ready k : ℕ) (os : List Operation)
    → IsJobShop s → IsFeasible s plan → j < length s.rows → os ≡ drop k (row_at s.rows j)
    → (k < s.machines → ready ≤ start_at plan j k)
    → ((h : ℕ) → IsOperation s j h → k ≤ h → number_in machines (operation_at s j h).machine ≤ start_at plan j h)
    → (i : ℕ) → i < length os → number_in (heads machines ready os) i ≤ start_at plan j (k + i)
unfolding heads
heads-le s plan machines j ready k [] shop feasible row is sooner free i lt = absurd (omega (arith, lt))
heads-le s plan machines j ready k (o ∷ os) shop feasible row is sooner free zero lt =
    let next = next_is (row_at s.rows j) k o os is in
    let inside : k < s.machines = omega (arith, next.inside, row-length s j shop row) in
    omega (
      arith,
      sooner inside,
      free k (row, inside) (omega arith),
      ap (λ (x : Operation). number_in machines x.machine) next.here,
      ap (start_at plan j) (let e : k + 0 ≡ k = omega arith in e),
    )
heads-le s plan machines j ready k (o ∷ os) shop feasible row is sooner free (suc i) lt =
    let next = next_is (row_at s.rows j) k o os is in
    let inside : k < s.machines = omega (arith, next.inside, row-length s j shop row) in
    let head : head_of machines ready o ≤ start_at plan j k =
    omega (
      arith,
      sooner inside,
      free k (row, inside) (omega arith),
      ap
          (λ (x : Operation). number_in machines x.machine) next.here,
    ) in
    let rest = heads-le s plan machines j (head_of machines ready o + o.time) (k + 1) os shop feasible row next.rest
    (λ more. omega (arith, head, ap (λ (x : Operation). x.time) next.here, feasible.ordered j k (row, more)))
    (λ h op later. free h op (omega (arith, later))) i (omega (arith, lt)) in
    omega (arith, rest, ap (start_at plan j) (let e : k + 1 + i ≡ k + suc i = omega arith in e))

-- what comes after an operation in its job ends within the makespan
pub ends_with_tail : (s : JobShop) (plan : List (List ℕ)) (j k : ℕ) (os : List Operation) → IsJobShop s
    → IsFeasible s plan → IsOperation s j k → os ≡ drop (k + 1) (row_at s.rows j)
    → end_at s plan j k + row_time os ≤ makespan s plan
ends_with_tail s plan j k [] shop feasible op is = omega (arith, end_within_makespan s plan j k shop feasible.shaped op)
ends_with_tail s plan j k (o ∷ os) shop feasible op is =
    let next = next_is (row_at s.rows j) (k + 1) o os is in
    let more : IsOperation s j (k + 1) = (op.0, omega (arith, next.inside, row-length s j shop op.0)) in
    omega (
      arith,
      feasible.ordered j k more,
      ap (λ (x : Operation). x.time) next.here,
      ends_with_tail s plan j
          (k + 1) os shop feasible more next.rest,
    )
