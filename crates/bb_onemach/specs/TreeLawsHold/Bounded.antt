-- A node's bound is at most what it reaches, and within the limit of all times.
use Rattle.std.proofs.Common.{◌≡◌, ℕ, ◌+◌, ◌-◌, ◌<◌, ◌≤◌, inl, inr, true, false, List, [], ◌∷◌, ◌++◌, refl, sym, ap}
use Rattle.std.proofs.Common.{◌∙◌, length, get_or, drop, map, arith}
use Rattle.std.specs.Prelude.{nat_le, ◌&&◌, Bool, All, AllPairs, Contains, filter}
use Rattle.std.proofs.lemmas.Bool.{cases_Bool, cond-true, cond-false}
use Rattle.std.proofs.lemmas.Bool.Decides.{nat_tests}
use Rattle.std.proofs.lemmas.List.{get_or-map, length-map, length-drop}
use Rattle.std.proofs.lemmas.List.Elements.{All-filter, All-contains, All-contains_itself, filter_passes}
use Rattle.std.proofs.lemmas.List.Elements.{Contains-get_or}
use Rattle.std.proofs.lemmas.List.Kept.{AllPairs-filter}
use Rattle.inst_text.specs.Limits.{max_total}
use Rattle.inst_text.specs.Shop.{JobShop, IsJobShop}
use Rattle.bb_problem.specs.Tree.{total}
use Rattle.bb_shop.specs.Plans.{row_at, start_at, IsFeasible, makespan}
use Rattle.bb_shop.specs.Dispatching.{number_in, step_of, state_of, IsOrder}
use Rattle.bb_shop.specs.Bounds.{greatest, finish, each_from, rest_of, finishes}
use Rattle.bb_shop.specs.Bounds as dispatching
use Rattle.bb_shop.specs.Branching as dispatched
use Rattle.bb_shop.specs.Working.{left_of}
use Rattle.bb_shop.specs.TreeLawsHold.States.{IsState-of, row-length}
use Rattle.bb_shop.specs.TreeLawsHold.Bounded as dispatched_bounds
use Rattle.bb_shop.specs.TreeLawsHold.Ready.{whole_within}
use Rattle.bb_shop.specs.TreeLawsHold.Least.{goes_on}
use Rattle.bb_shop.specs.TreeLawsHold.Reaching.{KeepsTo, keeps_reaches}
use Rattle.bb_shop.specs.TreeLawsHold.Grown.{greatest_each-le}
use Rattle.bb_shop.specs.TreeLawsHold.Standing.{step_at_place, bound_by-is, finishes-le, machines-le}
use Rattle.bb_onemach.specs.declared.task.Task.{Task}
use Rattle.bb_onemach.specs.declared.visit.Visit.{Visit}
use Rattle.bb_onemach.specs.Visits.{visits, is_left, task_of, tasks}
use Rattle.bb_onemach.specs.Thresholds.{threshold_bound, bound_above, one_machine_bound}
use Rattle.bb_onemach.specs.Bounds.{bound_by, bound_of}
use Rattle.bb_onemach.specs.Branching.{Reaches}
use Rattle.bb_onemach.specs.TreeLawsHold.Above.{time_above, time_asked-in, time_asked-early, time_asked-short, Within}
use Rattle.bb_onemach.specs.TreeLawsHold.Above.{Early, Short, case_of, by_parts}
use Rattle.bb_onemach.specs.TreeLawsHold.Packing.{Apart, IsIn, packed, le-from_test}
use Rattle.bb_onemach.specs.TreeLawsHold.Starting.{IsVisit, visits_are, visits_in_order, heads-le, ends_with_tail}
use Rattle.bb_onemach.specs.TreeLawsHold.Passing.{order_reaches}

-- a plan that a node reaches is kept to by its state
pub keeps : (s : JobShop) (name : List ℕ) (v : ℕ) (r : Reaches s name v) → KeepsTo s r.plan (state_of s name)
keeps s name v r = record {
  ready = λ j left. r.ready j (step_of (state_of s name) j) left (omega arith);
  free = λ j k op later. r.free j k op later;
  sooner =
      λ (j k : ℕ) (row : j < length s.rows) (started : k < step_of (state_of s name) j).
      omega (arith, r.kept j k (row, omega (arith, started, (IsState-of s name r.order).steps j)) started);
}

-- so the bound of dispatching is at most what it costs
dispatched-le : (s : JobShop) (name : List ℕ) (v : ℕ) → IsJobShop s → (r : Reaches s name v)
    → dispatching.bound_of s name ≤ makespan s r.plan
dispatched-le s name v shop r =
    dispatched_bounds.bounded s name (makespan s r.plan) shop
    (keeps_reaches s r.plan name shop r.feasible r.order (keeps s name v r))

-- what a plan makes of an operation that is left
record IsWorked (s : JobShop) (plan : List (List ℕ)) (x : Task) (v : Visit) : Type 0 where
  head : x.head ≤ start_at plan v.job v.step
  end : start_at plan v.job v.step + v.time + x.tail ≤ makespan s plan

abbrev steps_of : JobShop → List ℕ → List ℕ
steps_of s name = map length (state_of s name).starts

abbrev task_in : JobShop → List ℕ → Visit → Task
task_in s name v = task_of s (steps_of s name) (state_of s name).jobs (state_of s name).machines v

worked : (s : JobShop) (name : List ℕ) (v m : ℕ) (x : Visit) → IsJobShop s → (r : Reaches s name v) → IsVisit s m x
    → is_left (steps_of s name) x ≡ true → IsWorked s r.plan (task_in s name x) x
worked s name v m x shop r is left =
    let st = state_of s name in
    let j = x.job in
    let k = number_in (steps_of s name) j in
    let step : k ≡ step_of st j = step_at_place st.starts j in
    let le : k ≤ x.step = le-from_test k x.step left in
    let row = is.operation.0 in
    let first =
    heads-le s r.plan st.machines j (number_in st.jobs j) k (left_of s (steps_of s name) j) shop r.feasible row refl
    (λ inside. r.ready j k (row, inside) (omega (arith, step)))
    (λ h op later. r.free j h op (omega (arith, step, later)))
    (x.step - k) (omega (arith, length-drop k (row_at s.rows j), row-length s j shop row, is.operation.1, le)) in
    record {
      head = omega (arith, first, ap (start_at r.plan j) (let e : k + (x.step - k) ≡ x.step = omega (arith, le) in e));
      end = omega (
        arith,
        is.time,
        is.tail,
        ends_with_tail s r.plan j x.step
            (drop (x.step + 1) (row_at s.rows j)) shop r.feasible is.operation refl,
      );
    }

-- those above two thresholds
above : ℕ → ℕ → Task → Bool
above h t x = nat_le h x.head && nat_le t x.tail

above-in : (h t : ℕ) (x : Task) → h ≤ x.head → t ≤ x.tail → above h t x ≡ true
unfolding above
above-in h t x head tail = grind (arith, nat_tests, head, tail)

above-early : (h t : ℕ) (x : Task) → x.head < h → (above h t x ≡ true → ⊥)
unfolding above
above-early h t x lt is = grind (arith, nat_tests, lt, is)

above-short : (h t : ℕ) (x : Task) → x.tail < t → (above h t x ≡ true → ⊥)
unfolding above
above-short h t x lt is = grind (arith, nat_tests, lt, is)

above-parts : (h t : ℕ) (x : Task) → above h t x ≡ true → (h ≤ x.head) × (t ≤ x.tail)
above-parts h t x is =
    elim (case_of h t x) [
      | Within head tail ↦ (head, tail)
      | Early lt ↦ absurd (above-early h t x lt is)
      | Short head lt ↦ absurd (above-short h t x lt is)
    ]

fails : (b : Bool) → (b ≡ true → ⊥) → b ≡ false
fails b not_true =
    elim (cases_Bool b) [
      | inl holds ↦ absurd (not_true holds)
      | inr is ↦ is
    ]

-- the times of those above are the time above
times-are : (s : JobShop) (name : List ℕ) (h t : ℕ) (vs : List Visit)
    → total (λ (w : Visit). w.time) (filter (λ w. above h t (task_in s name w)) vs) ≡ time_above h t
    (map (task_in s name) vs)
times-are s name h t [] = refl
times-are s name h t (w ∷ ws) =
    let p : Visit → Bool = λ x. above h t (task_in s name x) in
    let x = task_in s name w in
    let time : Visit → ℕ = λ y. y.time in
    let rest = times-are s name h t ws in
    elim (case_of h t x) [
      | Within head tail ↦
          omega (
            arith,
            ap (total time)
                (cond-true (p w) (w ∷ filter p ws) (filter p ws) (above-in h t x head tail)),
            time_asked-in h t x head
                tail,
            rest,
          )
      | Early lt ↦
          omega (
            arith,
            ap (total time)
                (cond-false (p w) (w ∷ filter p ws) (filter p ws)
                (fails (p w) (above-early h t x lt))),
            time_asked-early h t x lt,
            rest,
          )
      | Short head lt ↦
          omega (
            arith,
            ap (total time)
                (cond-false (p w) (w ∷ filter p ws) (filter p ws)
                (fails (p w) (above-short h t x lt))),
            time_asked-short h t x head lt,
            rest,
          )
    ]

pub contains_map : {X Y : Type 0} (f : X → Y) (xs : List X) (x : X) → Contains xs x → Contains (map f xs) (f x)
contains_map f xs x there =
    (there.0, omega (arith, there.1, length-map xs f), get_or-map f xs there.0 x (f x) there.1 ∙ ap f there.2)

-- what one of a mapped list comes from
pub record IsOf {X Y : Type 0} (f : X → Y) (xs : List X) (y : Y) : Type 0 where
  pub source : X
  pub there : Contains xs source
  pub same : f source ≡ y

pub comes_from : {X Y : Type 0} (f : X → Y) (d : X) (xs : List X) (y : Y) → Contains (map f xs) y → IsOf f xs y
comes_from f d xs y there =
    let inside : there.0 < length xs = omega (arith, there.1, length-map xs f) in
    record {
      source = get_or xs there.0 d;
      there = Contains-get_or xs there.0 d inside;
      same = sym (get_or-map f xs there.0 d y inside) ∙ there.2;
    }

some_visit : Visit
some_visit = record { job = 0; step = 0; time = 0; tail = 0 }

-- a plan works the operations of a machine apart
worked_apart : (s : JobShop) (plan : List (List ℕ)) (m : ℕ) → IsJobShop s → IsFeasible s plan
    → AllPairs (Apart (λ (w : Visit). start_at plan w.job w.step) (λ (w : Visit). w.time)) (visits s m)
worked_apart s plan m shop feasible = λ i j d lt inside.
    let v = get_or (visits s m) i d in
    let w = get_or (visits s m) j d in
    let one : IsVisit s m v = visits_are s m shop i d (omega (arith, lt, inside)) in
    let other : IsVisit s m w = visits_are s m shop j d inside in
    elim (feasible.apart v.job v.step w.job w.step (record {
      one = one.operation;
      other = other.operation;
      later = visits_in_order s m shop i j d lt inside;
      machine = one.machine ∙ sym other.machine;
    })) [
      | inl le ↦ inl (omega (arith, le, one.time))
      | inr le ↦ inr (omega (arith, le, other.time))
    ]

-- so no thresholds' bound exceeds the makespan
threshold-le : (s : JobShop) (name : List ℕ) (v m h t : ℕ) → IsJobShop s → (r : Reaches s name v)
    → threshold_bound (tasks s (steps_of s name) (state_of s name).jobs (state_of s name).machines m) h t
    ≤ makespan s r.plan
threshold-le s name v m h t shop r =
    let plan = r.plan in
    let end = makespan s plan in
    let f : Visit → Task = task_in s name in
    let vs : List Visit = filter (is_left (steps_of s name)) (visits s m) in
    let start : Visit → ℕ = λ w. start_at plan w.job w.step in
    let time : Visit → ℕ = λ w. w.time in
    let p : Visit → Bool = λ w. above h t (f w) in
    let each : All (IsVisit s m) vs =
    All-filter (is_left (steps_of s name)) (IsVisit s m) (visits s m) (visits_are s m shop) in
    let lefts : All (λ w. is_left (steps_of s name) w ≡ true) vs =
    filter_passes (is_left (steps_of s name)) (visits s m) in
    let work : (w : Visit) → Contains vs w → IsWorked s plan (f w) w =
    λ w there. worked s name v m w shop r (All-contains (IsVisit s m) vs w each there)
    (All-contains (λ x. is_left (steps_of s name) x ≡ true) vs w lefts there) in
    by_parts h t (map f vs) (λ n. n ≤ end) (omega arith)
    (λ head tail x there is low short least.
    let of = comes_from f some_visit vs x there in
    let done = work of.source of.there in
    let most = least x there low short in
    let room : head + tail ≤ end =
    omega (
      arith,
      is,
      ap (λ (y : Task). y.head) of.same,
      ap
          (λ (y : Task). y.tail) of.same,
      most.1,
      done.head,
      done.end,
    ) in
    let within : All (IsIn start time head (end - tail)) (filter p vs) =
    λ k d lt.
    let w = get_or (filter p vs) k d in
    let inside : Contains vs w = All-filter p (Contains vs) vs (All-contains_itself vs) k d lt in
    let parts = above-parts h t (f w) (filter_passes p vs k d lt) in
    let more = least (f w) (contains_map f vs w inside) parts.0 parts.1 in
    let made = work w inside in
    (omega (arith, more.0, made.head), omega (arith, more.1, made.end)) in
    let apart : AllPairs (Apart start time) (filter p vs) =
    AllPairs-filter (Apart start time) p vs (AllPairs-filter (Apart start time) (is_left (steps_of s name))
    (visits s m) (worked_apart s plan m shop r.feasible)) in
    omega (
      arith,
      packed start time (filter p vs) head (end - tail)
          (omega (arith, room)) within apart,
      times-are s name h t vs,
      room,
    ))

greatest_map-le : {X : Type 0} (f : X → ℕ) (xs : List X) (limit : ℕ) → ((x : X) → f x ≤ limit)
    → greatest (map f xs) ≤ limit
greatest_map-le f [] limit each = omega arith
greatest_map-le f (x ∷ xs) limit each = omega (arith, each x, greatest_map-le f xs limit each)

-- A node's bound is at most what it reaches.
pub bounded : (s : JobShop) (name : List ℕ) (v : ℕ) → IsJobShop s → Reaches s name v → bound_of s name ≤ v
unfolding bound_by
bounded s name v shop r =
    let st = state_of s name in
    let steps = steps_of s name in
    let one_machine : (m : ℕ) → one_machine_bound (tasks s steps st.jobs st.machines m) ≤ makespan s r.plan =
    λ m.
    let xs = tasks s steps st.jobs st.machines m in
    greatest_map-le (λ (x : Task). bound_above xs x.head) xs (makespan s r.plan)
    (λ x. greatest_map-le (λ (y : Task). threshold_bound xs x.head y.tail) xs (makespan s r.plan)
    (λ y. threshold-le s name v m x.head y.tail shop r)) in
    omega (
      arith,
      r.cost,
      dispatched-le s name v shop r,
      bound_by-is s st,
      finishes-le s steps st.jobs st.machines,
      machines-le s steps st.jobs st.machines,
      greatest_each-le (λ m. one_machine_bound (tasks s steps st.jobs st.machines m)) 0 s.machines (makespan s r.plan)
          (λ m low high. one_machine m),
    )

-- No node's bound exceeds the limit of all times.
pub bound_within : (s : JobShop) (name : List ℕ) → IsJobShop s → IsOrder s name → bound_of s name ≤ max_total
bound_within s name shop order =
    let on = goes_on s name shop order in
    let reached = order_reaches s name on.0 shop on.1 on.2 in
    omega (
      arith,
      bounded s name (dispatched.order_cost s (name ++ on.0)) shop reached,
      whole_within s
          (name ++ on.0) shop on.1 on.2,
      shop.times,
    )
