-- A plan's next operation of a job can be moved to where its job and its machine are ready, if the plan starts no other
-- operation that is left on the machine before it then ends.
use Rattle.std.proofs.Common.{◌≡◌, ◌≢◌, ℕ, zero, suc, ◌+◌, ◌<◌, ◌≤◌, ◌⊎◌, inl, inr, List, [], ◌∷◌, refl, sym, ap, ◌∙◌}
use Rattle.std.proofs.Common.{length, get_or, set, arith}
use Rattle.std.specs.List.{AllByRecursion}
use Rattle.std.proofs.lemmas.Bool.{cases_lt, cases_eq}
use Rattle.std.proofs.lemmas.List.{length-set, get_or-set_same, get_or-set_other, get_or_past}
use Rattle.inst_text.specs.Shop.{JobShop, IsJobShop}
use Rattle.bb_problem.specs.Tree.{below}
use Rattle.bb_shop.specs.Plans.{operation_at, start_at, end_at, IsOperation, IsBefore, ArePair, AreShaped, IsFeasible}
use Rattle.bb_shop.specs.Plans.{makespan}
use Rattle.bb_shop.specs.Dispatching.{number_in, step_of, next_of, next_start, next_end, dispatched, state_of, IsLeft}
use Rattle.bb_shop.specs.TreeLawsHold.States.{IsState-of, state_of-below, IsOrder-below, job-same, job-other}
use Rattle.bb_shop.specs.TreeLawsHold.States.{machine-same, machine-other, next_machine-lt}
use Rattle.bb_shop.specs.TreeLawsHold.Leaves.{IsSound-of, started_cases, start-old, start-new}
use Rattle.bb_shop.specs.TreeLawsHold.Ended.{length-times, end_within_makespan}
use Rattle.bb_shop.specs.TreeLawsHold.Reaching.{end-before, left_before}
use Rattle.bb_shop.specs.TreeLawsHold.Ready.{rows_end-le}
use Rattle.bb_onemach.specs.Branching.{Reaches}

-- the plan with the operation of job i at step k at another time
abbrev moved : List (List ℕ) → ℕ → ℕ → ℕ → List (List ℕ)
moved plan i k a = set plan i (set (get_or plan i []) k a)

-- what differs of two plans
record IsMoved (s : JobShop) (plan new : List (List ℕ)) (i k a : ℕ) : Type 0 where
  shaped : AreShaped s new
  here : start_at new i k ≡ a
  elsewhere : (j h : ℕ) → (j ≡ i → h ≢ k) → start_at new j h ≡ start_at plan j h

rows_set : (m : ℕ) (rows : List (List ℕ)) (i : ℕ) (ts : List ℕ)
    → AllByRecursion (λ (row : List ℕ). length row ≡ m) rows → length ts ≡ m
    → AllByRecursion (λ (row : List ℕ). length row ≡ m) (set rows i ts)
rows_set m [] i ts all is = tt
rows_set m (row ∷ rows) zero ts all is = (is, all.1)
rows_set m (row ∷ rows) (suc i) ts all is = (all.0, rows_set m rows i ts all.1 is)

moved_elsewhere : (plan : List (List ℕ)) (i k a : ℕ) → i < length plan → (j h : ℕ) → (j ≡ i → h ≢ k)
    → start_at (moved plan i k a) j h ≡ start_at plan j h
moved_elsewhere plan i k a inside j h away =
    let row = get_or plan i [] in
    elim (cases_eq j i) [
      | inl same ↦
          rw same (ap (λ (ts : List ℕ). get_or ts h 0) (get_or-set_same plan i (set row k a) [] inside)
          ∙ get_or-set_other row k h a 0 (away same))
      | inr other ↦ ap (λ (ts : List ℕ). get_or ts h 0) (get_or-set_other plan i j (set row k a) [] other)
    ]

moved_is : (s : JobShop) (plan : List (List ℕ)) (i k a : ℕ) → AreShaped s plan → IsOperation s i k
    → IsMoved s plan (moved plan i k a) i k a
moved_is s plan i k a shaped op =
    let row = get_or plan i [] in
    let inside : i < length plan = omega (arith, op.0, shaped.rows) in
    let size = length-times s plan i shaped op.0 in
    record {
      shaped = record {
        rows = length-set plan i (set row k a) ∙ shaped.rows;
        times = rows_set s.machines plan i (set row k a) shaped.times (length-set row k a ∙ size);
      };
      here = ap (λ (ts : List ℕ). get_or ts k 0) (get_or-set_same plan i (set row k a) [] inside)
          ∙ get_or-set_same row k a 0 (omega (arith, op.1, size));
      elsewhere = moved_elsewhere plan i k a inside;
    }

-- an operation is that one or another one
that_or_other : (j h i k : ℕ) → ((j ≡ i) × (h ≡ k)) ⊎ (j ≡ i → h ≢ k)
that_or_other j h i k =
    elim (cases_eq j i) [
      | inl same ↦
          elim (cases_eq h k) [
            | inl step ↦ inl (same, step)
            | inr other ↦ inr (λ _. other)
          ]
      | inr other ↦ inr (λ (e : j ≡ i). absurd (other e))
    ]

-- the plan starts no other operation that is left on the machine of job i's next one before that one can end
abbrev pub MakeWay : JobShop → List ℕ → List (List ℕ) → ℕ → Type 0
MakeWay s name plan i =
    (j h : ℕ) → IsOperation s j h → step_of (state_of s name) j ≤ h → j ≢ i
    → (operation_at s j h).machine ≡ (next_of s (state_of s name) i).machine
    → next_end s (state_of s name) i ≤ start_at plan j h

-- the plan starts job i's next operation no earlier than it can be started
pub next-le : (s : JobShop) (name : List ℕ) (v i : ℕ) (r : Reaches s name v) → IsLeft s (state_of s name) i
    → next_start s (state_of s name) i ≤ start_at r.plan i (step_of (state_of s name) i)
next-le s name v i r left =
    let k = step_of (state_of s name) i in
    omega (arith, r.ready i k left (omega arith), r.free i k left (omega arith))

-- where it is moved to
abbrev early : (s : JobShop) (name : List ℕ) (v i : ℕ) → Reaches s name v → List (List ℕ)
early s name v i r = moved r.plan i (step_of (state_of s name) i) (next_start s (state_of s name) i)

early_is : (s : JobShop) (name : List ℕ) (v i : ℕ) (r : Reaches s name v) → IsLeft s (state_of s name) i
    → IsMoved s r.plan (early s name v i r) i (step_of (state_of s name) i) (next_start s (state_of s name) i)
early_is s name v i r left =
    moved_is s r.plan i (step_of (state_of s name) i) (next_start s (state_of s name) i) r.feasible.shaped left

early-le : (s : JobShop) (name : List ℕ) (v i : ℕ) (r : Reaches s name v) → IsLeft s (state_of s name) i → (j h : ℕ)
    → start_at (early s name v i r) j h ≤ start_at r.plan j h
early-le s name v i r left j h =
    let is = early_is s name v i r left in
    elim (that_or_other j h i (step_of (state_of s name) i)) [
      | inl same ↦ rw (same.0, same.1) (omega (arith, is.here, next-le s name v i r left))
      | inr away ↦ omega (arith, is.elsewhere j h away)
    ]

early_ordered : (s : JobShop) (name : List ℕ) (v i : ℕ) → IsJobShop s → (r : Reaches s name v)
    → IsLeft s (state_of s name) i → (j h : ℕ) → IsOperation s j (h + 1)
    → end_at s (early s name v i r) j h ≤ start_at (early s name v i r) j (h + 1)
early_ordered s name v i shop r left j h op =
    let st = state_of s name in
    let is = early_is s name v i r left in
    elim (that_or_other j (h + 1) i (step_of st i)) [
      | inl same ↦
          let before : h < step_of st j = omega (arith, same.1, ap (step_of st) same.0) in
          let here : start_at (early s name v i r) j (h + 1) ≡ next_start s st i = rw (same.0, same.1) is.here in
          omega (
            arith,
            early-le s name v i r left j h,
            r.kept j h (op.0, omega (arith, op.1)) before,
            (IsSound-of s name shop r.order).job j h before,
            ap (number_in st.jobs) same.0,
            here,
          )
      | inr away ↦ omega (arith, early-le s name v i r left j h, r.feasible.ordered j h op, is.elsewhere j (h + 1) away)
    ]

-- another operation on the machine starts after the moved one, or ends before it
clear : (s : JobShop) (name : List ℕ) (v i : ℕ) → IsJobShop s → (r : Reaches s name v) → IsLeft s (state_of s name) i
    → MakeWay s name r.plan i
    → (j h : ℕ) → IsOperation s j h → (j ≡ i → h ≢ step_of (state_of s name) i)
    → (operation_at s j h).machine ≡ (next_of s (state_of s name) i).machine
    → (next_end s (state_of s name) i ≤ start_at r.plan j h) ⊎ (end_at s r.plan j h ≤ next_start s (state_of s name) i)
clear s name v i shop r left way j h op away machine =
    let st = state_of s name in
    elim (cases_lt h (step_of st j)) [
      | inl started ↦ inr (omega (
        arith,
        r.kept j h op started,
        (IsSound-of s name shop r.order).machine j h started,
        ap
            (number_in st.machines) machine,
      ))
      | inr later ↦
          elim (cases_eq j i) [
            | inl same ↦
                let ne = away same in
                let lt : step_of st i < h = omega (arith, later, ap (step_of st) same, ne) in
                inl (rw same (omega (
                  arith,
                  next-le s name v i r left,
                  end-before s r.plan r.feasible.ordered i
                      (step_of st i) h (rw same at op) lt,
                )))
            | inr other ↦ inl (way j h op later other machine)
          ]
    ]

not_before_itself : (j h i k : ℕ) → IsBefore i k j h → j ≡ i → h ≢ k
not_before_itself j h i k before same step =
    elim before [
      | inl lt ↦ omega (arith, lt, same)
      | inr lt ↦ omega (arith, lt.1, step)
    ]

early_apart : (s : JobShop) (name : List ℕ) (v i : ℕ) → IsJobShop s → (r : Reaches s name v)
    → IsLeft s (state_of s name) i → MakeWay s name r.plan i
    → (a b c d : ℕ) → ArePair s a b c d
    → (end_at s (early s name v i r) a b ≤ start_at (early s name v i r) c d)
    ⊎ (end_at s (early s name v i r) c d ≤ start_at (early s name v i r) a b)
early_apart s name v i shop r left way a b c d pair =
    let st = state_of s name in
    let k = step_of st i in
    let new = early s name v i r in
    let is = early_is s name v i r left in
    elim (that_or_other a b i k) [
      | inl one ↦
          let here : start_at new a b ≡ next_start s st i = rw (one.0, one.1) is.here in
          let end : end_at s new a b ≡ next_end s st i =
          rw (one.0, one.1) (ap (λ t. t + (next_of s st i).time) is.here) in
          let machine : (operation_at s c d).machine ≡ (next_of s st i).machine =
          sym pair.machine ∙ rw (one.0, one.1) refl in
          let away : c ≡ i → d ≢ k = not_before_itself c d i k (rw (one.0, one.1) at pair.later) in
          elim (clear s name v i shop r left way c d pair.other away machine) [
            | inl le ↦ inl (omega (arith, end, le, is.elsewhere c d away))
            | inr le ↦ inr (omega (arith, here, le, early-le s name v i r left c d))
          ]
      | inr one_away ↦
          elim (that_or_other c d i k) [
            | inl other ↦
                let here : start_at new c d ≡ next_start s st i = rw (other.0, other.1) is.here in
                let end : end_at s new c d ≡ next_end s st i =
                rw (other.0, other.1) (ap (λ t. t + (next_of s st i).time) is.here) in
                let machine : (operation_at s a b).machine ≡ (next_of s st i).machine =
                pair.machine ∙ rw (other.0, other.1) refl in
                elim (clear s name v i shop r left way a b pair.one one_away machine) [
                  | inl le ↦ inr (omega (arith, end, le, is.elsewhere a b one_away))
                  | inr le ↦ inl (omega (arith, here, le, early-le s name v i r left a b))
                ]
            | inr other_away ↦
                elim (r.feasible.apart a b c d pair) [
                  | inl le ↦ inl (omega (arith, le, is.elsewhere a b one_away, is.elsewhere c d other_away))
                  | inr le ↦ inr (omega (arith, le, is.elsewhere a b one_away, is.elsewhere c d other_away))
                ]
          ]
    ]

early_feasible : (s : JobShop) (name : List ℕ) (v i : ℕ) → IsJobShop s → (r : Reaches s name v)
    → IsLeft s (state_of s name) i → MakeWay s name r.plan i → IsFeasible s (early s name v i r)
early_feasible s name v i shop r left way = record {
  shaped = (early_is s name v i r left).shaped;
  ordered = early_ordered s name v i shop r left;
  apart = early_apart s name v i shop r left way;
}

-- what ends no later costs no more
pub cost-le : (s : JobShop) (plan new : List (List ℕ)) → IsJobShop s → AreShaped s plan → AreShaped s new
    → ((j h : ℕ) → start_at new j h ≤ start_at plan j h) → makespan s new ≤ makespan s plan
cost-le s plan new shop shaped new_shaped le =
    rows_end-le (makespan s plan) s.rows new
    (λ (j h : ℕ) (lt : h < length (get_or new j [])).
    elim (cases_lt j (length s.rows)) [
      | inl row ↦ omega (
        arith,
        le j h,
        end_within_makespan s plan j h shop shaped
            (row, omega (arith, lt, length-times s new j new_shaped row)),
      )
      | inr past ↦ absurd (omega
          (arith, lt, ap (λ (ts : List ℕ). length ts) (get_or_past new j [] (omega (arith, past, new_shaped.rows)))))
    ])

-- the moved plan keeps what is dispatched with that operation
early_kept : (s : JobShop) (name : List ℕ) (v i : ℕ) (r : Reaches s name v) → IsLeft s (state_of s name) i → (j h : ℕ)
    → IsOperation s j h
    → h < step_of (dispatched s (state_of s name) i) j
    → start_at (early s name v i r) j h ≡ start_at (dispatched s (state_of s name) i).starts j h
early_kept s name v i r left j h op started =
    let st = state_of s name in
    let is = early_is s name v i r left in
    let state = IsState-of s name r.order in
    elim (started_cases s st i j h state left started) [
      | inl old ↦
          is.elsewhere j h (λ same step. omega (arith, old, ap (step_of st) same, step)) ∙ r.kept j h op old
          ∙ sym (start-old s st i j h state left old)
      | inr new ↦ rw (new.1, new.0) (is.here ∙ sym (start-new s st i state left))
    ]

-- an operation of the same job that is left then starts after it
after_it : (s : JobShop) (name : List ℕ) (v i : ℕ) (r : Reaches s name v) → IsLeft s (state_of s name) i → (j h : ℕ)
    → IsOperation s j h → j ≡ i → step_of (state_of s name) i < h
    → next_end s (state_of s name) i ≤ start_at r.plan j h
after_it s name v i r left j h op same lt =
    rw same (omega (
      arith,
      next-le s name v i r left,
      end-before s r.plan r.feasible.ordered i
          (step_of (state_of s name) i) h (rw same at op) lt,
    ))

early_ready : (s : JobShop) (name : List ℕ) (v i : ℕ) (r : Reaches s name v) → IsLeft s (state_of s name) i
    → (j h : ℕ) → IsOperation s j h
    → step_of (dispatched s (state_of s name) i) j ≤ h
    → number_in (dispatched s (state_of s name) i).jobs j ≤ start_at (early s name v i r) j h
early_ready s name v i r left j h op later =
    let st = state_of s name in
    let is = early_is s name v i r left in
    let state = IsState-of s name r.order in
    let before = left_before s st i j h state left later in
    let there = is.elsewhere j h (λ same step. omega (arith, before.1 same, step)) in
    elim (cases_eq j i) [
      | inl same ↦
          omega (
            arith,
            ap (number_in (dispatched s st i).jobs) same,
            job-same s st i (omega (arith, left.0, state.jobs)),
            there,
            after_it s name v i r left j h op same (before.1 same),
          )
      | inr other ↦ omega (arith, job-other s st i j other, r.ready j h op before.0, there)
    ]

early_free : (s : JobShop) (name : List ℕ) (v i : ℕ) → IsJobShop s → (r : Reaches s name v)
    → IsLeft s (state_of s name) i → MakeWay s name r.plan i → (j h : ℕ) → IsOperation s j h
    → step_of (dispatched s (state_of s name) i) j ≤ h
    → number_in (dispatched s (state_of s name) i).machines (operation_at s j h).machine ≤ start_at
    (early s name v i r) j h
early_free s name v i shop r left way j h op later =
    let st = state_of s name in
    let m = (operation_at s j h).machine in
    let is = early_is s name v i r left in
    let state = IsState-of s name r.order in
    let before = left_before s st i j h state left later in
    let there = is.elsewhere j h (λ same step. omega (arith, before.1 same, step)) in
    elim (cases_eq m (next_of s st i).machine) [
      | inl machine ↦
          let free = ap (number_in (dispatched s st i).machines) machine
          ∙ machine-same s st i (omega (arith, next_machine-lt s st i shop left, state.machines)) in
          elim (cases_eq j i) [
            | inl same ↦ omega (arith, free, there, after_it s name v i r left j h op same (before.1 same))
            | inr other ↦ omega (arith, free, there, way j h op before.0 other machine)
          ]
      | inr elsewhere ↦ omega (arith, machine-other s st i m elsewhere, r.free j h op before.0, there)
    ]

-- so the child that dispatches the operation reaches what the node reaches
pub moves : (s : JobShop) (name : List ℕ) (v i : ℕ) → IsJobShop s → (r : Reaches s name v)
    → IsLeft s (state_of s name) i → MakeWay s name r.plan i → Reaches s (below name i) v
moves s name v i shop r left way =
    let e = state_of-below s name i in
    record {
      order = IsOrder-below s name i r.order left;
      plan = early s name v i r;
      feasible = early_feasible s name v i shop r left way;
      cost = omega (
        arith,
        r.cost,
        cost-le s r.plan (early s name v i r) shop r.feasible.shaped
            (early_is s name v i r left).shaped (early-le s name v i r left),
      );
      kept = λ j h op started. rw e (early_kept s name v i r left j h op (rw e at started));
      ready = λ j h op later. rw e (early_ready s name v i r left j h op (rw e at later));
      free = λ j h op later. rw e (early_free s name v i shop r left way j h op (rw e at later));
    }
