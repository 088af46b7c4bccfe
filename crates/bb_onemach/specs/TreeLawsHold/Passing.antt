-- A branch loses nothing: what a node reaches, one of its children reaches. And what is dispatched in any order is
-- reached from each node on the way.
use Rattle.std.proofs.Common.{◌≡◌, ◌≢◌, ℕ, zero, suc, ◌<◌, ◌≤◌, ◌⊎◌, inl, inr, true, List, [], ◌∷◌, ◌++◌, refl, sym, ap}
use Rattle.std.proofs.Common.{◌∙◌, subst, length, get_or, arith}
use Rattle.std.specs.Prelude.{nat_lt, Bool, filter, All, Contains}
use Rattle.std.proofs.Math.Logic.{⊎_swap}
use Rattle.std.proofs.lemmas.Bool.{cases_Bool, cases_lt, cases_eq, cases_order, cond-true, cond-false, lt-ltb, le-ltb}
use Rattle.std.proofs.lemmas.Bool.Decides.{nat_tests}
use Rattle.std.proofs.lemmas.List.{append-nil, append_assoc}
use Rattle.std.proofs.lemmas.List.Elements.{All-nil, All-cons, All-head, All-tail, All-contains, All-contains_itself}
use Rattle.inst_text.specs.Shop.{JobShop, IsJobShop, operations}
use Rattle.bb_problem.specs.Tree.{below}
use Rattle.bb_shop.specs.declared.booking.Booking.{Booking}
use Rattle.bb_shop.specs.Plans.{operation_at, start_at, end_at, IsOperation, IsFeasible}
use Rattle.bb_shop.specs.Dispatching.{State, opened, step_of, next_of, next_start, next_end, dispatched, state_of}
use Rattle.bb_shop.specs.Dispatching.{IsLeft, IsOrder}
use Rattle.bb_shop.specs.Branching.{children_of, order_cost}
use Rattle.bb_shop.specs.TreeLawsHold.States.{IsState, IsState-of, state_of-below, AreLeft-first, AreLeft-rest}
use Rattle.bb_shop.specs.TreeLawsHold.States.{step_of-same, step_of-other, whole_is_shaped}
use Rattle.bb_shop.specs.TreeLawsHold.Children.{children-none, children_are_left}
use Rattle.bb_shop.specs.TreeLawsHold.Leaves.{leaf_is_feasible, start-old, start-new, job-grows, machine-grows}
use Rattle.bb_shop.specs.TreeLawsHold.Reaching.{end-before, First, first_of, IsNextFirst, ends_before_start}
use Rattle.bb_shop.specs.TreeLawsHold.Reaching.{left_or_not}
use Rattle.bb_shop.specs.TreeLawsHold.Ended.{length-times}
use Rattle.bb_onemach.specs.Branching.{sooner, soonest, competes, competing, next_in, active_children, Reaches}
use Rattle.bb_onemach.specs.TreeLawsHold.Moving.{MakeWay, next-le, moves}

-- the sooner of two ends no later than both
record IsSooner (next : ℕ → Booking) (j k i : ℕ) : Type 0 where
  one : (next i).end ≤ (next j).end
  other : (next i).end ≤ (next k).end

sooner-is : (next : ℕ → Booking) (j k : ℕ) → IsSooner next j k (sooner next j k)
sooner-is next j k =
    elim (cases_lt (next k).end (next j).end) [
      | inl lt ↦
          let e : sooner next j k ≡ k =
          cond-true (nat_lt (next k).end (next j).end) k j (lt-ltb (next k).end (next j).end lt) in
          rw e (record { one = omega (arith, lt); other = omega arith })
      | inr le ↦
          let e : sooner next j k ≡ j =
          cond-false (nat_lt (next k).end (next j).end) k j (le-ltb (next k).end (next j).end le) in
          rw e (record { one = omega arith; other = le })
    ]

sooner-keeps : (next : ℕ → Booking) (P : ℕ → Type 0) (j k : ℕ) → P j → P k → P (sooner next j k)
sooner-keeps next P j k p q =
    elim (cases_lt (next k).end (next j).end) [
      | inl lt ↦ rw (cond-true (nat_lt (next k).end (next j).end) k j (lt-ltb (next k).end (next j).end lt)) q
      | inr le ↦ rw (cond-false (nat_lt (next k).end (next j).end) k j (le-ltb (next k).end (next j).end le)) p
    ]

-- what holds of all jobs holds of the soonest, and none ends sooner
pub soonest-keeps : (next : ℕ → Booking) (P : ℕ → Type 0) (j : ℕ) (ks : List ℕ) → P j → All P ks → P (soonest next j ks)
unfolding soonest
soonest-keeps next P j [] p all = p
soonest-keeps next P j (k ∷ ks) p all =
    soonest-keeps next P (sooner next j k) ks (sooner-keeps next P j k p (All-head P k ks all)) (All-tail P k ks all)

record IsSoonest (next : ℕ → Booking) (j : ℕ) (ks : List ℕ) (c : ℕ) : Type 0 where
  first : (next c).end ≤ (next j).end
  rest : All (λ i. (next c).end ≤ (next i).end) ks

soonest-is : (next : ℕ → Booking) (j : ℕ) (ks : List ℕ) → IsSoonest next j ks (soonest next j ks)
unfolding soonest
soonest-is next j [] = record { first = omega arith; rest = All-nil (λ i. (next j).end ≤ (next i).end) }
soonest-is next j (k ∷ ks) =
    let c = soonest next (sooner next j k) ks in
    let is = soonest-is next (sooner next j k) ks in
    let two = sooner-is next j k in
    record {
      first = omega (arith, is.first, two.one);
      rest = All-cons (λ i. (next c).end ≤ (next i).end) k ks (omega (arith, is.first, two.other)) is.rest;
    }

-- what passes a test is among those that pass
contains_at : {X : Type 0} (p : X → Bool) (xs : List X) (x : X) (i : ℕ) → i < length xs → get_or xs i x ≡ x
    → p x ≡ true → Contains (filter p xs) x
contains_at p [] x i lt is pass = absurd (omega (arith, lt))
contains_at p (y ∷ ys) x zero lt is pass =
    let here : p y ≡ true = ap p is ∙ pass in
    subst (λ zs. Contains zs x) (sym (cond-true (p y) (y ∷ filter p ys) (filter p ys) here)) (0, omega arith, is)
contains_at p (y ∷ ys) x (suc i) lt is pass =
    let rest = contains_at p ys x i (omega (arith, lt)) is pass in
    elim (cases_Bool (p y)) [
      | inl is_in ↦ subst (λ zs. Contains zs x) (sym (cond-true (p y) (y ∷ filter p ys) (filter p ys) is_in))
          (suc rest.0, omega (arith, rest.1), rest.2)
      | inr is_out ↦ subst (λ zs. Contains zs x) (sym (cond-false (p y) (y ∷ filter p ys) (filter p ys) is_out)) rest
    ]

pub contains_passing : {X : Type 0} (p : X → Bool) (xs : List X) (x : X) → Contains xs x → p x ≡ true
    → Contains (filter p xs) x
contains_passing p xs x there pass = contains_at p xs x there.0 there.1 there.2 pass

-- a job competes with itself, and with one on its machine that it starts before the end of
pub competes-itself : (next : ℕ → Booking) (c : ℕ) → competes next c c ≡ true
competes-itself next c = grind (arith, nat_tests)

competes-other : (next : ℕ → Booking) (c i : ℕ) → (next i).machine ≡ (next c).machine → (next i).start < (next c).end
    → competes next c i ≡ true
competes-other next c i machine lt = grind (arith, nat_tests, machine, lt)

-- the next operation of a job that is left is on machine m
abbrev NextOn : JobShop → State → ℕ → ℕ → Type 0
NextOn s st m i = IsLeft s st i × (next_of s st i).machine ≡ m

next_on_or_not : (s : JobShop) (st : State) (m i : ℕ) → NextOn s st m i ⊎ (NextOn s st m i → ⊥)
next_on_or_not s st m i =
    elim (left_or_not s st i) [
      | inl left ↦
          elim (cases_eq (next_of s st i).machine m) [
            | inl same ↦ inl (left, same)
            | inr other ↦ inr (λ is. other is.1)
          ]
      | inr none ↦ inr (λ is. none is.0)
    ]

-- of two operations of one machine one ends before the other starts
one_first : (s : JobShop) (plan : List (List ℕ)) → IsFeasible s plan → (i h j k : ℕ) → IsOperation s i h
    → IsOperation s j k → i ≢ j → (operation_at s i h).machine ≡ (operation_at s j k).machine
    → (end_at s plan i h ≤ start_at plan j k) ⊎ (end_at s plan j k ≤ start_at plan i h)
one_first s plan feasible i h j k one other ne machine =
    elim (cases_order i j) [
      | inl same ↦ absurd (ne same)
      | inr before_or_after ↦
          elim before_or_after [
            | inl lt ↦ feasible.apart i h j k (record { one = one; other = other; later = inl lt; machine = machine })
            | inr lt ↦ ⊎_swap (feasible.apart j k i h (record {
              one = other;
              other = one;
              later = inl lt;
              machine = sym machine;
            }))
          ]
    ]

-- an operation that is not next in its job starts no earlier than the next one can end
not_next : (s : JobShop) (name : List ℕ) (v j h : ℕ) (r : Reaches s name v) → IsOperation s j h
    → step_of (state_of s name) j < h → next_end s (state_of s name) j ≤ start_at r.plan j h
not_next s name v j h r op lt =
    let k = step_of (state_of s name) j in
    let left : IsLeft s (state_of s name) j = (op.0, omega (arith, lt, op.1)) in
    omega (arith, next-le s name v j r left, end-before s r.plan r.feasible.ordered j k h op lt)

-- The first of the next operations on the machine makes way, if it starts before the soonest one ends; else that one.
first_makes_way : (s : JobShop) (name : List ℕ) (v c : ℕ) (r : Reaches s name v)
    → ((i : ℕ) → IsLeft s (state_of s name) i → next_end s (state_of s name) c ≤ next_end s (state_of s name) i)
    → (f : First s r.plan (state_of s name) (NextOn s (state_of s name) (next_of s (state_of s name) c).machine)
    (length s.rows))
    → start_at r.plan f.job (step_of (state_of s name) f.job) < next_end s (state_of s name) c
    → MakeWay s name r.plan f.job
first_makes_way s name v c r least f soon j h op later other machine =
    let st = state_of s name in
    let i = f.job in
    let k = step_of st i in
    let early = next-le s name v i r f.is.0 in
    let apart = one_first s r.plan r.feasible i k j h f.is.0 op (λ e. other (sym e)) (sym machine) in
    elim (cases_lt (step_of st j) h) [
      | inl lt ↦
          let left : IsLeft s st j = (op.0, omega (arith, lt, op.1)) in
          let late = not_next s name v j h r op lt in
          elim apart [
            | inl le ↦ omega (arith, early, le)
            | inr le ↦ absurd (omega (arith, le, late, least j left, soon))
          ]
      | inr le ↦
          let e : step_of st j ≡ h = omega (arith, later, le) in
          let next : NextOn s st (next_of s st c).machine j =
          ((op.0, omega (arith, later, op.1)), ap (λ n. (operation_at s j n).machine) e ∙ machine ∙ f.is.1) in
          let first : IsNextFirst s r.plan st i j = f.first j op.0 next in
          let before = ends_before_start (start_at r.plan i k) (operation_at s i k).time (start_at r.plan j h)
          (operation_at s j h).time (rw e at first) apart in
          omega (arith, early, before)
    ]

soonest_makes_way : (s : JobShop) (name : List ℕ) (v c : ℕ) (r : Reaches s name v)
    → ((i : ℕ) → IsLeft s (state_of s name) i → next_end s (state_of s name) c ≤ next_end s (state_of s name) i)
    → (f : First s r.plan (state_of s name) (NextOn s (state_of s name) (next_of s (state_of s name) c).machine)
    (length s.rows))
    → next_end s (state_of s name) c ≤ start_at r.plan f.job (step_of (state_of s name) f.job) → MakeWay s name r.plan c
soonest_makes_way s name v c r least f late j h op later other machine =
    let st = state_of s name in
    elim (cases_lt (step_of st j) h) [
      | inl lt ↦ omega (arith, not_next s name v j h r op lt, least j (op.0, omega (arith, lt, op.1)))
      | inr le ↦
          let e : step_of st j ≡ h = omega (arith, later, le) in
          let next : NextOn s st (next_of s st c).machine j =
          ((op.0, omega (arith, later, op.1)), ap (λ n. (operation_at s j n).machine) e ∙ machine) in
          omega (arith, late, (f.first j op.0 next).start, ap (start_at r.plan j) e)
    ]

-- the children are those of dispatching that compete
pub active-are : (s : JobShop) (name ks : List ℕ) → children_of s name ≡ ks
    → active_children s name ≡ competing (next_in s (state_of s name)) ks
unfolding active_children
active-are s name ks are = ap (competing (next_in s (state_of s name))) are

step-grows : (s : JobShop) (st : State) (i j : ℕ) → IsState s st → IsLeft s st i
    → step_of st j ≤ step_of (dispatched s st i) j
step-grows s st i j state left =
    elim (cases_eq j i) [
      | inl same ↦ rw same (omega (arith, step_of-same s st i (omega (arith, left.0, state.starts))))
      | inr other ↦ omega (arith, step_of-other s st i j other)
    ]

-- a child for what is reached
pass : (s : JobShop) (name : List ℕ) (v j : ℕ) (js : List ℕ) → IsJobShop s → Reaches s name v
    → length name < operations s → children_of s name ≡ j ∷ js
    → (k : ℕ) × Contains (active_children s name) k × Reaches s (below name k) v
pass s name v j js shop r short are =
    let st = state_of s name in
    let next = next_in s st in
    let c = soonest next j js in
    let children = children_are_left s name r.order short in
    let is = soonest-is next j js in
    let inside : Contains (j ∷ js) c =
    soonest-keeps next (Contains (j ∷ js)) j js (All-head (Contains (j ∷ js)) j js (All-contains_itself (j ∷ js)))
    (All-tail (Contains (j ∷ js)) j js (All-contains_itself (j ∷ js))) in
    let left : IsLeft s st c = children.left c (subst (λ xs. Contains xs c) (sym are) inside) in
    let least : (i : ℕ) → IsLeft s st i → next_end s st c ≤ next_end s st i =
    λ i l. All-contains (λ n. (next c).end ≤ (next n).end) (j ∷ js) i
    (All-cons (λ n. (next c).end ≤ (next n).end) j js is.first is.rest)
    (subst (λ xs. Contains xs i) are (children.all i l)) in
    let f = first_of s r.plan st (NextOn s st (next_of s st c).machine)
    (next_on_or_not s st (next_of s st c).machine) c (left, refl) (length s.rows) in
    let child : (i : ℕ) → Contains (j ∷ js) i → competes next c i ≡ true → Contains (active_children s name) i =
    λ i there pass. subst (λ xs. Contains xs i) (sym (active-are s name (j ∷ js) are))
    (contains_passing (competes next c) (j ∷ js) i there pass) in
    elim (cases_lt (start_at r.plan f.job (step_of st f.job)) (next_end s st c)) [
      | inl soon ↦
          let there : Contains (j ∷ js) f.job = subst (λ xs. Contains xs f.job) are (children.all f.job f.is.0) in
          let start : next_start s st f.job < next_end s st c =
          omega (arith, next-le s name v f.job r f.is.0, soon) in (
            f.job,
            child f.job there (competes-other next c f.job f.is.1 start),
            moves s name v f.job shop r f.is.0
                (first_makes_way s name v c r least f soon),
          )
      | inr late ↦ (
        c,
        child c inside (competes-itself next c),
        moves s name v c shop r left
            (soonest_makes_way s name v c r least f late),
      )
    ]

pass_at : (s : JobShop) (name : List ℕ) (v : ℕ) (ks : List ℕ) → IsJobShop s → Reaches s name v
    → length name < operations s → children_of s name ≡ ks → 1 ≤ length ks
    → (k : ℕ) × Contains (active_children s name) k × Reaches s (below name k) v
pass_at s name v [] shop r short are some = absurd (omega (arith, some))
pass_at s name v (j ∷ js) shop r short are some = pass s name v j js shop r short are

pub passed_on : (s : JobShop) (name : List ℕ) (v : ℕ) → IsJobShop s → Reaches s name v → active_children s name ≢ []
    → (k : ℕ) × Contains (active_children s name) k × Reaches s (below name k) v
passed_on s name v shop r some =
    elim (cases_lt (length name) (operations s)) [
      | inl short ↦
          pass_at s name v (children_of s name) shop r short refl (children_are_left s name r.order short).some
      | inr full ↦ absurd (some (active-are s name [] (children-none s name full)))
    ]

-- Dispatched in any order, a schedule is reached from each node on the way: at its end it is the plan itself.
whole_reaches : (s : JobShop) (name : List ℕ) → IsJobShop s → IsOrder s name → length name ≡ operations s
    → Reaches s name (order_cost s name)
whole_reaches s name shop order whole =
    let shaped = whole_is_shaped s name order whole in
    let st = state_of s name in
    let full : (j k : ℕ) → IsOperation s j k → step_of st j ≤ k → ⊥ =
    λ j k op later. omega (arith, later, length-times s st.starts j shaped op.0, op.1) in
    record {
      order = order;
      plan = st.starts;
      feasible = leaf_is_feasible s name shop order whole;
      cost = omega arith;
      kept = λ j k op started. refl;
      ready = λ j k op later. absurd (full j k op later);
      free = λ j k op later. absurd (full j k op later);
    }

-- an operation that is left before a dispatching is the one that is dispatched, or is left after it
left_or_it : (s : JobShop) (st : State) (i j h : ℕ) → IsState s st → IsLeft s st i → step_of st j ≤ h
    → ((j ≡ i) × (h ≡ step_of st i)) ⊎ (step_of (dispatched s st i) j ≤ h)
left_or_it s st i j h state left later =
    elim (cases_eq j i) [
      | inl same ↦
          elim (cases_eq h (step_of st i)) [
            | inl step ↦ inl (same, step)
            | inr other ↦ inr (omega (
              arith,
              ap (step_of (dispatched s st i)) same,
              step_of-same s st i
                  (omega (arith, left.0, state.starts)),
              later,
              ap (step_of st) same,
              other,
            ))
          ]
      | inr other ↦ inr (omega (arith, step_of-other s st i j other, later))
    ]

above_reaches : (s : JobShop) (name : List ℕ) (i v : ℕ) → IsJobShop s → IsOrder s name → IsLeft s (state_of s name) i
    → Reaches s (below name i) v → Reaches s name v
above_reaches s name i v shop order left r =
    let st = state_of s name in
    let state = IsState-of s name order in
    let e = state_of-below s name i in
    let kept : (j k : ℕ) → IsOperation s j k → k < step_of (dispatched s st i) j
    → start_at r.plan j k ≡ start_at (dispatched s st i).starts j k =
    λ j k op started. rw e at (r.kept j k op (rw e started)) in
    let here : start_at r.plan i (step_of st i) ≡ next_start s st i =
    kept i (step_of st i) left (omega (arith, step_of-same s st i (omega (arith, left.0, state.starts))))
    ∙ start-new s st i state left in
    record {
      order = order;
      plan = r.plan;
      feasible = r.feasible;
      cost = r.cost;
      kept = λ j k op started.
          kept j k op (omega (arith, started, step-grows s st i j state left))
          ∙ start-old s st i j k state left started;
      ready = λ j k op later.
          elim (left_or_it s st i j k state left later) [
            | inl is ↦ rw (is.0, is.1) (omega (arith, here))
            | inr after ↦ omega (arith, job-grows s st i j state left, rw e at (r.ready j k op (rw e after)))
          ];
      free = λ j k op later.
          elim (left_or_it s st i j k state left later) [
            | inl is ↦ rw (is.0, is.1) (omega (arith, here))
            | inr after ↦ omega (
              arith,
              machine-grows s st i (operation_at s j k).machine shop state left,
              rw e at
                  (r.free j k op (rw e after)),
            )
          ];
    }

pub order_reaches : (s : JobShop) (name more : List ℕ) → IsJobShop s → IsOrder s (name ++ more)
    → length (name ++ more) ≡ operations s → Reaches s name (order_cost s (name ++ more))
order_reaches s name [] shop order whole =
    let e : name ++ [] ≡ name = append-nil name in
    rw e (whole_reaches s name shop (rw e at order) (rw e at whole))
order_reaches s name (i ∷ more) shop order whole =
    let e : below name i ++ more ≡ name ++ (i ∷ more) = append_assoc name (i ∷ []) more in
    let rest : Reaches s (below name i) (order_cost s (name ++ (i ∷ more))) =
    rw e at (order_reaches s (below name i) more shop (rw e order) (rw e whole)) in
    above_reaches s name i (order_cost s (name ++ (i ∷ more))) shop (AreLeft-first s (opened s) name (i ∷ more) order)
    (AreLeft-rest s (opened s) name (i ∷ more) order).0 rest
