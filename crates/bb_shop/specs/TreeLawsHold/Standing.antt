-- Nodes that stand in the shop's tree: their bounds, their children and their plans.
use Rattle.std.proofs.Common.{◌≡◌, ℕ, zero, suc, ◌+◌, ◌<◌, ◌≤◌, List, [], ◌∷◌, ◌++◌, inl, inr, refl, sym, ap, ◌∙◌}
use Rattle.std.proofs.Common.{subst, length, get_or, drop, set, take, map, replicate, arith}
use Rattle.std.specs.Prelude.{max, All}
use Rattle.std.proofs.lemmas.Bool.{cases_lt}
use Rattle.std.proofs.lemmas.List.{length-map, length-replicate, length_push, map-set, take-replicate}
use Rattle.std.proofs.lemmas.List.Elements.{All-head, All-tail, All-get_or}
use Rattle.bb_problem.specs.Limits.{cost_limit}
use Rattle.bb_problem.specs.Tree.{below}
use Rattle.bb_problem.specs.Expanding.{StandBelow}
use Rattle.inst_text.specs.declared.shop.Operation.{Operation}
use Rattle.inst_text.specs.Limits.{max_jobs, max_machines}
use Rattle.inst_text.specs.Shop.{JobShop, IsJobShop, operations}
use Rattle.bb_shop.specs.Plans.{row_at, operation_at, makespan, IsFeasible}
use Rattle.bb_shop.specs.Dispatching.{State, number_in, starts_of, step_of, next_of, next_start, next_end, state_of}
use Rattle.bb_shop.specs.Dispatching.{IsLeft, IsOrder}
use Rattle.bb_shop.specs.Bounds.{greatest, machine_bound, finish, job_load, each_from, all_joined, bound_at, bound_of}
use Rattle.bb_shop.specs.Bounds.{root_bound}
use Rattle.bb_shop.specs.Judging.{booked}
use Rattle.bb_shop.specs.Branching.{jobs_left, children_of, Reaches, Node, Stands}
use Rattle.bb_shop.specs.Working.{FitTo, finish_at, load_at, whole_load, bound_by, rows_of, left_in, coming, next_at}
use Rattle.bb_shop.specs.Working.{ending, child_of, IsLeftAt, IsPlanOf}
use Rattle.bb_shop.specs.TreeLawsHold.States.{IsState-of, state_of-nil, state_of-below, starts-dispatched}
use Rattle.bb_shop.specs.TreeLawsHold.States.{jobs-dispatched, machines-dispatched, IsOrder-below, length-order}
use Rattle.bb_shop.specs.TreeLawsHold.States.{get_or-same}
use Rattle.bb_shop.specs.TreeLawsHold.Children.{jobs_left-short, jobs_left-full, children-none, children_are_left}
use Rattle.bb_shop.specs.TreeLawsHold.Leaves.{leaf_is_feasible}
use Rattle.bb_shop.specs.TreeLawsHold.Branches.{leaf_is_least}
use Rattle.bb_shop.specs.TreeLawsHold.Ready.{IsTimely-of, worked-le, ready_within, cost-within}
use Rattle.bb_shop.specs.TreeLawsHold.Remaining.{length-left_in, left_in-are_left}

-- as many start times as steps
pub step_at_place : (rows : List (List ℕ)) (j : ℕ) → number_in (map length rows) j ≡ length (get_or rows j [])
step_at_place [] j = refl
step_at_place (row ∷ rows) zero = refl
step_at_place (row ∷ rows) (suc j) = step_at_place rows j

-- the same of each number
each_from-same : {A : Type 0} (f g : ℕ → A) (j n : ℕ) → ((k : ℕ) → f k ≡ g k) → each_from f j n ≡ each_from g j n
each_from-same f g j zero same = refl
each_from-same f g j (suc n) same =
    ap (λ x. x ∷ each_from f (j + 1) n) (same j) ∙ ap (λ xs. g j ∷ xs) (each_from-same f g (j + 1) n same)

-- the bound by the lists of a node is that of its state
pub bound_by-is : (s : JobShop) (st : State) → bound_by s (map length st.starts) st.jobs st.machines ≡ bound_at s st
unfolding bound_by bound_at
bound_by-is s st =
    let steps = map length st.starts in
    let jobs = st.jobs in
    let machines = st.machines in
    let finishes : each_from (finish_at s steps jobs machines) 0 (length s.rows) ≡ each_from
    (λ j. finish machines (number_in jobs j) (drop (step_of st j) (row_at s.rows j))) 0 (length s.rows) =
    each_from-same (finish_at s steps jobs machines)
    (λ j. finish machines (number_in jobs j) (drop (step_of st j) (row_at s.rows j))) 0 (length s.rows)
    (λ j. ap (λ k. finish machines (number_in jobs j) (drop k (row_at s.rows j))) (step_at_place st.starts j)) in
    let loads = λ (m : ℕ). each_from-same (load_at s steps jobs machines m)
    (λ j. job_load machines m (number_in jobs j) (drop (step_of st j) (row_at s.rows j))) 0 (length s.rows)
    (λ j. ap (λ k. job_load machines m (number_in jobs j) (drop k (row_at s.rows j))) (step_at_place st.starts j)) in
    let machine_bounds = each_from-same (λ m. machine_bound (whole_load s steps jobs machines m))
    (λ m. machine_bound (all_joined
    (each_from (λ j. job_load machines m (number_in jobs j) (drop (step_of st j) (row_at s.rows j))) 0
    (length s.rows)))) 0 s.machines
    (λ m. ap (λ ls. machine_bound (all_joined ls)) (loads m)) in
    ap (λ fs. max (greatest fs)
    (max (greatest machines)
    (greatest (each_from (λ m. machine_bound (whole_load s steps jobs machines m)) 0 s.machines)))) finishes
    ∙ ap (λ fs. max (greatest
    (each_from (λ j. finish machines (number_in jobs j) (drop (step_of st j) (row_at s.rows j))) 0
    (length s.rows))) (max (greatest machines) (greatest fs))) machine_bounds

-- the finishes and the ready times are part of the bound
pub finishes-le : (s : JobShop) (steps jobs machines : List ℕ)
    → greatest (each_from (finish_at s steps jobs machines) 0 (length s.rows)) ≤ bound_by s steps jobs machines
unfolding bound_by
finishes-le s steps jobs machines = omega arith

pub machines-le : (s : JobShop) (steps jobs machines : List ℕ) → greatest machines ≤ bound_by s steps jobs machines
unfolding bound_by
machines-le s steps jobs machines = omega arith

-- the root's lists
map-replicate : (n : ℕ) → map length (replicate {A = List ℕ} n []) ≡ replicate n 0
map-replicate zero = refl
map-replicate (suc n) = ap (λ xs. 0 ∷ xs) (map-replicate n)

pub root_fits : (s : JobShop) (n m : ℕ) → IsJobShop s → n ≡ length s.rows → m ≡ s.machines
    → FitTo s (take n (replicate {A = ℕ} (max_jobs + max_machines) 0))
    (take n (replicate {A = ℕ} (max_jobs + max_machines) 0)) (take m (replicate {A = ℕ} (max_jobs + max_machines) 0))
root_fits s n m shop jobs machines =
    let job_list : take n (replicate {A = ℕ} (max_jobs + max_machines) 0) ≡ replicate {A = ℕ} n 0 =
    take-replicate n (max_jobs + max_machines) 0 (omega (arith, jobs, shop.jobs)) in
    let machine_list : take m (replicate {A = ℕ} (max_jobs + max_machines) 0) ≡ replicate {A = ℕ} m 0 =
    take-replicate m (max_jobs + max_machines) 0 (omega (arith, machines, shop.machines)) in
    record {
      each_step = omega (arith, ap (λ (xs : List ℕ). length xs) job_list, length-replicate {A = ℕ} n 0, jobs);
      each_job = omega (arith, ap (λ (xs : List ℕ). length xs) job_list, length-replicate {A = ℕ} n 0, jobs);
      each_machine =
          omega (arith, ap (λ (xs : List ℕ). length xs) machine_list, length-replicate {A = ℕ} m 0, machines);
      jobs_ready = record {
        each =
            λ k. omega (arith, ap (λ (xs : List ℕ). number_in xs k) job_list, get_or-same {X = ℕ} n k 0);
      };
      machines_ready = record {
        each =
            λ k. omega (arith, ap (λ (xs : List ℕ). number_in xs k) machine_list, get_or-same {X = ℕ} m k 0);
      };
    }

-- they are the lists of the state that dispatches nothing
pub root_lists : (s : JobShop) (n m : ℕ) (f : List ℕ → List ℕ → List ℕ → ℕ) → IsJobShop s → n ≡ length s.rows
    → m ≡ s.machines
    → f (take n (replicate {A = ℕ} (max_jobs + max_machines) 0))
    (take n (replicate {A = ℕ} (max_jobs + max_machines) 0))
    (take m (replicate {A = ℕ} (max_jobs + max_machines) 0))
    ≡ f (map length (state_of s []).starts) (state_of s []).jobs (state_of s []).machines
root_lists s n m f shop jobs machines =
    let none = replicate {A = ℕ} (max_jobs + max_machines) 0 in
    let count = length s.rows in
    let job_list : take n none ≡ replicate {A = ℕ} count 0 =
    take-replicate n (max_jobs + max_machines) 0 (omega (arith, jobs, shop.jobs))
    ∙ ap (λ k. replicate {A = ℕ} k 0) jobs in
    let machine_list : take m none ≡ replicate {A = ℕ} s.machines 0 =
    take-replicate m (max_jobs + max_machines) 0 (omega (arith, machines, shop.machines))
    ∙ ap (λ k. replicate {A = ℕ} k 0) machines in
    ap (λ xs. f xs xs (take m none)) job_list
    ∙ ap (f (replicate {A = ℕ} count 0) (replicate {A = ℕ} count 0)) machine_list
    ∙ ap (λ xs. f xs (replicate {A = ℕ} count 0) (replicate {A = ℕ} s.machines 0)) (sym (map-replicate count))
    ∙ ap (λ (st : State). f (map length st.starts) st.jobs st.machines) (sym (state_of-nil s))

pub root_bound-is : (s : JobShop) (n m : ℕ) → IsJobShop s → n ≡ length s.rows → m ≡ s.machines
    → bound_by s (take n (replicate {A = ℕ} (max_jobs + max_machines) 0))
    (take n (replicate {A = ℕ} (max_jobs + max_machines) 0))
    (take m (replicate {A = ℕ} (max_jobs + max_machines) 0)) ≡ root_bound s
root_bound-is s n m shop jobs machines =
    root_lists s n m (bound_by s) shop jobs machines ∙ bound_by-is s (state_of s [])

pub root_stands : (s : JobShop) (node : Node)
    → node ≡ record {
      order = [];
      steps = replicate (length s.rows) 0;
      jobs = replicate (length s.rows) 0;
      machines = replicate s.machines 0;
    } → Stands s node []
root_stands s node is = record {
  same = ap (λ (n : Node). n.order) is;
  order = tt;
  steps = ap (λ (n : Node). n.steps) is ∙ sym (map-replicate (length s.rows))
      ∙ ap (λ (x : State). map length x.starts) (sym (state_of-nil s));
  jobs = ap (λ (n : Node). n.jobs) is ∙ ap (λ (x : State). x.jobs) (sym (state_of-nil s));
  machines = ap (λ (n : Node). n.machines) is ∙ ap (λ (x : State). x.machines) (sym (state_of-nil s));
}

-- a node that stands fits the shop, and its bound is that of its name
pub stands_fits : (s : JobShop) (node : Node) (name : List ℕ) → IsJobShop s → Stands s node name
    → FitTo s node.steps node.jobs node.machines
stands_fits s node name shop stands =
    let st = state_of s name in
    let is = IsState-of s name stands.order in
    let timely = IsTimely-of s name shop stands.order in
    let limit = worked-le s.rows st.starts in
    record {
      each_step = ap (λ (xs : List ℕ). length xs) stands.steps ∙ length-map st.starts (λ (row : List ℕ). length row)
          ∙ is.starts;
      each_job = ap (λ (xs : List ℕ). length xs) stands.jobs ∙ is.jobs;
      each_machine = ap (λ (xs : List ℕ). length xs) stands.machines ∙ is.machines;
      jobs_ready = record {
        each =
            λ k. omega (arith, ap (λ (xs : List ℕ). number_in xs k) stands.jobs, timely.jobs k, limit, shop.times);
      };
      machines_ready = record {
        each =
            λ k. omega (
              arith,
              ap (λ (xs : List ℕ). number_in xs k) stands.machines,
              timely.machines
                  k,
              limit,
              shop.times,
            );
      };
    }

pub stands_bound : (s : JobShop) (node : Node) (name : List ℕ) → Stands s node name
    → bound_by s node.steps node.jobs node.machines ≡ bound_of s name
stands_bound s node name stands =
    let st = state_of s name in
    ap (λ xs. bound_by s xs node.jobs node.machines) stands.steps
    ∙ ap (λ xs. bound_by s (map length st.starts) xs node.machines) stands.jobs
    ∙ ap (bound_by s (map length st.starts) st.jobs) stands.machines ∙ bound_by-is s st

-- the child that dispatches a job that is left stands
pub child_stands : (s : JobShop) (node : Node) (name : List ℕ) (j : ℕ) → IsJobShop s → Stands s node name
    → IsLeft s (state_of s name) j → Stands s (child_of s node j) (below name j)
child_stands s node name j shop stands left =
    let st = state_of s name in
    let step : number_in node.steps j ≡ step_of st j =
    ap (λ (xs : List ℕ). number_in xs j) stands.steps ∙ step_at_place st.starts j in
    let operation : coming s node j ≡ next_of s st j = ap (operation_at s j) step in
    let start : max (number_in node.jobs j) (number_in node.machines (coming s node j).machine) ≡ next_start s st j =
    ap (λ xs. max (number_in xs j) (number_in node.machines (coming s node j).machine)) stands.jobs
    ∙ ap (λ xs. max (number_in st.jobs j) (number_in xs (coming s node j).machine)) stands.machines
    ∙ ap (λ (o : Operation). max (number_in st.jobs j) (number_in st.machines o.machine)) operation in
    let end : ending node (coming s node j) j ≡ next_end s st j =
    omega (
      arith,
      start,
      ap (λ (o : Operation). o.time) operation,
      (ready_within s name shop stands.order).next j
          left,
    ) in
    let more : number_in node.steps j + 1 ≡ length (starts_of st j ++ next_start s st j ∷ []) =
    omega (arith, step, length_push (starts_of st j) (next_start s st j)) in
    record {
      same = ap (λ xs. xs ++ j ∷ []) stands.same;
      order = IsOrder-below s name j stands.order left;
      steps =
          ap (λ n. set node.steps j n) more
          ∙ ap (λ xs. set xs j (length (starts_of st j ++ next_start s st j ∷ []))) stands.steps
          ∙ sym (map-set (λ (row : List ℕ). length row) st.starts j (starts_of st j ++ next_start s st j ∷ []))
          ∙ ap (λ rows. map length rows) (sym (starts-dispatched s st j))
          ∙ ap (λ (x : State). map length x.starts) (sym (state_of-below s name j));
      jobs =
          ap (λ n. set node.jobs j n) end ∙ ap (λ xs. set xs j (next_end s st j)) stands.jobs
          ∙ sym (jobs-dispatched s st j) ∙ ap (λ (x : State). x.jobs) (sym (state_of-below s name j));
      machines =
          ap (λ n. set node.machines (coming s node j).machine n) end
          ∙ ap (λ xs. set xs (coming s node j).machine (next_end s st j)) stands.machines
          ∙ ap (λ (o : Operation). set st.machines o.machine (next_end s st j)) operation
          ∙ sym (machines-dispatched s st j) ∙ ap (λ (x : State). x.machines) (sym (state_of-below s name j));
    }

-- when the next operation of a job needs its machine
pub next_at-is : (s : JobShop) (node : Node) (name : List ℕ) (j : ℕ) → Stands s node name
    → next_at s node j ≡ booked (next_of s (state_of s name) j) (next_start s (state_of s name) j)
next_at-is s node name j stands =
    let st = state_of s name in
    let operation : coming s node j ≡ next_of s st j =
    ap (operation_at s j) (ap (λ (xs : List ℕ). number_in xs j) stands.steps ∙ step_at_place st.starts j) in
    ap (λ xs. booked (coming s node j) (max (number_in xs j) (number_in node.machines (coming s node j).machine)))
    stands.jobs
    ∙ ap (λ xs. booked (coming s node j) (max (number_in st.jobs j) (number_in xs (coming s node j).machine)))
    stands.machines
    ∙ ap (λ (o : Operation). booked o (max (number_in st.jobs j) (number_in st.machines o.machine))) operation

-- the jobs left by steps are those by start times
left_in-starts : (m j : ℕ) (rows : List (List ℕ)) → jobs_left m j (rows_of (map length rows)) ≡ jobs_left m j rows
left_in-starts m j [] = refl
left_in-starts m j (row ∷ rows) =
    let first = replicate {A = ℕ} (length row) 0 in
    let rest = rows_of (map length rows) in
    let size = length-replicate {A = ℕ} (length row) 0 in
    elim (cases_lt (length row) m) [
      | inl short ↦ jobs_left-short m j first rest (omega (arith, size, short))
          ∙ ap (λ js. j ∷ js) (left_in-starts m (j + 1) rows) ∙ sym (jobs_left-short m j row rows short)
      | inr full ↦ jobs_left-full m j first rest (omega (arith, size, full)) ∙ left_in-starts m (j + 1) rows
          ∙ sym (jobs_left-full m j row rows full)
    ]

pub stands_left : (s : JobShop) (node : Node) (name : List ℕ) → Stands s node name
    → left_in s.machines node.steps ≡ jobs_left s.machines 0 (state_of s name).starts
stands_left s node name stands =
    ap (left_in s.machines) stands.steps ∙ left_in-starts s.machines 0 (state_of s name).starts

-- a job that has an operation left at the node is left in its state
pub left_at : (s : JobShop) (node : Node) (name : List ℕ) (j : ℕ) → Stands s node name → IsLeftAt s node j
    → IsLeft s (state_of s name) j
left_at s node name j stands is =
    let st = state_of s name in
    let step : number_in node.steps j ≡ step_of st j =
    ap (λ (xs : List ℕ). number_in xs j) stands.steps ∙ step_at_place st.starts j in (
      omega (
        arith,
        is.inside,
        ap (λ (xs : List ℕ). length xs) stands.steps,
        length-map st.starts
            (λ (row : List ℕ). length row),
        (IsState-of s name stands.order).starts,
      ),
      omega (arith, is.left, step),
    )

-- children that are left stand below
pub stand_below : (s : JobShop) (node : Node) (name : List ℕ) (ks : List ℕ) → (0 < length ks → IsJobShop s)
    → Stands s node name → All (IsLeftAt s node) ks
    → StandBelow (Stands s) name (map (child_of s node) ks) ks
stand_below s node name [] shop stands left = tt
stand_below s node name (k ∷ ks) shop stands left =
    let here : IsLeft s (state_of s name) k = left_at s node name k stands (All-head (IsLeftAt s node) k ks left) in
    let limits = shop (omega arith) in (
      child_stands s node name k limits stands here,
      stand_below s node name ks (λ some. limits) stands
          (All-tail (IsLeftAt s node) k ks left),
    )

-- an order after which a job is left is not whole, and one after which none is left is
pub left_is_short : (s : JobShop) (name : List ℕ) (j : ℕ) → IsOrder s name → IsLeft s (state_of s name) j
    → length name < operations s
left_is_short s name j order left =
    omega (arith, length-order s (below name j) (IsOrder-below s name j order left), length_push name j)

pub none_left_is_whole : (s : JobShop) (node : Node) (name : List ℕ) → Stands s node name
    → left_in s.machines node.steps ≡ [] → length name ≡ operations s
none_left_is_whole s node name stands none =
    elim (cases_lt (length name) (operations s)) [
      | inl short ↦
          let children = children_are_left s name stands.order short in
          absurd (omega (
            arith,
            children.some,
            ap (λ (xs : List ℕ). length xs) (children.are
                ∙ sym (stands_left s node name stands) ∙ none),
          ))
      | inr full ↦ omega (arith, full, length-order s name stands.order)
    ]

-- where jobs are left, they are the children
pub left_are_children : (s : JobShop) (node : Node) (name : List ℕ) → Stands s node name
    → 1 ≤ length (left_in s.machines node.steps) → left_in s.machines node.steps ≡ children_of s name
left_are_children s node name stands some =
    elim (cases_lt (length name) (operations s)) [
      | inl short ↦ stands_left s node name stands ∙ sym (children_are_left s name stands.order short).are
      | inr full ↦
          let first = get_or (left_in s.machines node.steps) 0 0 in
          let is = All-get_or (IsLeftAt s node) (left_in s.machines node.steps) 0 0 (omega (arith, some))
          (left_in-are_left s node) in
          absurd (omega (arith, full, left_is_short s name first stands.order (left_at s node name first stands is)))
    ]

-- how many jobs are left
pub left_count : (s : JobShop) (node : Node) → IsJobShop s → FitTo s node.steps node.jobs node.machines
    → length (left_in s.machines node.steps) ≤ max_jobs
left_count s node shop fit = omega (arith, length-left_in s.machines node.steps, fit.each_step, shop.jobs)

-- a plan that is made costs no more than all times
pub plan_within : (s : JobShop) (order : List ℕ) (starts : List (List ℕ)) → IsJobShop s → IsPlanOf s order starts
    → makespan s starts < cost_limit
plan_within s order starts shop plan =
    let is = plan.is_made in
    omega (
      arith,
      ap (makespan s) (plan.starts_are
          ∙ ap (λ (x : State). x.starts) is.made),
      cost-within s is.name shop is.ordered,
      shop.times,
    )

-- the plan of a node that stands has the start times of its state
pub leaf_starts : (s : JobShop) (node : Node) (name : List ℕ) (starts : List (List ℕ)) → Stands s node name
    → IsPlanOf s node.order starts → starts ≡ (state_of s name).starts
leaf_starts s node name starts stands plan =
    let is = plan.is_made in
    let named : is.name ≡ name = is.same (subst (IsOrder s) (sym stands.same) stands.order) ∙ stands.same in
    plan.starts_are ∙ ap (λ (x : State). x.starts) is.made ∙ ap (λ n. (state_of s n).starts) named

-- where no job is left the order is whole, and its plan is the leaf's
pub leaf_stands : (s : JobShop) (node : Node) (name : List ℕ) (starts : List (List ℕ)) → IsJobShop s
    → Stands s node name → left_in s.machines node.steps ≡ [] → starts ≡ (state_of s name).starts
    → (children_of s name ≡ []) × IsFeasible s starts × ((v : ℕ) → Reaches s name v → makespan s starts ≤ v)
leaf_stands s node name starts shop stands none made =
    let whole = none_left_is_whole s node name stands none in (
      children-none s name (omega (arith, whole)),
      subst (IsFeasible s) (sym made)
          (leaf_is_feasible s name shop stands.order whole),
      λ v r. omega
          (arith, ap (makespan s) made, leaf_is_least s name v r whole),
    )
