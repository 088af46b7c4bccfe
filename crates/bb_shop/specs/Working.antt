-- What the program makes of a node: from each job's next step, and from the ready times of jobs and machines.
use Rattle.std.specs.Prelude.{ℕ, ◌≡◌, ◌+◌, ◌-◌, ◌*◌, ◌≤◌, ◌<◌, List, [], ◌∷◌, ◌++◌, length, take, drop, max, min, set}
use Rattle.std.specs.Prelude.{replicate, map, sum}
use Rattle.inst_text.specs.declared.shop.Operation.{Operation}
use Rattle.inst_text.specs.Shop.{JobShop}
use Rattle.inst_text.specs.Limits.{max_jobs, max_machines, max_total}
use Rattle.bb_shop.specs.Plans.{row_at, operation_at}
use Rattle.bb_shop.specs.Dispatching.{State, number_in, starts_of, state_of, IsOrder}
use Rattle.bb_shop.specs.Bounds.{Load, finish, job_load, machine_bound, greatest, all_joined, each_from}
use Rattle.bb_shop.specs.declared.booking.Booking.{Booking}
use Rattle.bb_shop.specs.Judging.{booked}
use Rattle.bb_shop.specs.Branching.{Node, jobs_left}

-- no number is above this one
pub record AreUpTo (limit : ℕ) (xs : List ℕ) : Type 0 where
  pub each : (k : ℕ) → number_in xs k ≤ limit

-- a next step and a ready time for each job, and a ready time for each machine, none above the limit of all times
pub record FitTo (s : JobShop) (steps jobs machines : List ℕ) : Type 0 where
  pub each_step : length steps ≡ length s.rows
  pub each_job : length jobs ≡ length s.rows
  pub each_machine : length machines ≡ s.machines
  pub jobs_ready : AreUpTo max_total jobs
  pub machines_ready : AreUpTo max_total machines

-- the operations of job j that are left
abbrev pub left_of : JobShop → List ℕ → ℕ → List Operation
left_of s steps j = drop (number_in steps j) (row_at s.rows j)

-- when job j finishes at the earliest
abbrev pub finish_at : JobShop → List ℕ → List ℕ → List ℕ → ℕ → ℕ
finish_at s steps jobs machines j = finish machines (number_in jobs j) (left_of s steps j)

-- what the operations of job j that are left ask of machine m
abbrev pub load_at : JobShop → List ℕ → List ℕ → List ℕ → ℕ → ℕ → Load
load_at s steps jobs machines m j = job_load machines m (number_in jobs j) (left_of s steps j)

-- what the operations of all jobs ask of it
abbrev pub whole_load : JobShop → List ℕ → List ℕ → List ℕ → ℕ → Load
whole_load s steps jobs machines m = all_joined (each_from (load_at s steps jobs machines m) 0 (length s.rows))

-- the bound: the greatest of the jobs' finishes, the machines' ready times and the machines' bounds
unfoldable pub bound_by : JobShop → List ℕ → List ℕ → List ℕ → ℕ
bound_by s steps jobs machines =
    max (greatest (each_from (finish_at s steps jobs machines) 0 (length s.rows)))
    (max (greatest machines)
    (greatest (each_from (λ m. machine_bound (whole_load s steps jobs machines m)) 0 s.machines)))

-- rows of so many start times, one for each job
abbrev pub rows_of : List ℕ → List (List ℕ)
rows_of steps = map (λ k. replicate k 0) steps

-- the jobs that have operations left where these are the jobs' next steps
abbrev pub left_in : ℕ → List ℕ → List ℕ
left_in machines steps = jobs_left machines 0 (rows_of steps)

-- the operation that the job comes to next
abbrev pub coming : JobShop → Node → ℕ → Operation
coming s node j = operation_at s j (number_in node.steps j)

-- when it needs its machine: once the job and the machine are ready
abbrev pub next_at : JobShop → Node → ℕ → Booking
next_at s node j =
    booked (coming s node j) (max (number_in node.jobs j) (number_in node.machines (coming s node j).machine))

-- when it ends, or the limit of all times where that is less
abbrev pub ending : Node → Operation → ℕ → ℕ
ending node o j = min (max (number_in node.jobs j) (number_in node.machines o.machine) + o.time) max_total

-- the child that dispatches this operation of job j
abbrev pub child_by : Node → Operation → ℕ → Node
child_by node o j = record {
  order = node.order ++ j ∷ [];
  steps = set node.steps j (number_in node.steps j + 1);
  jobs = set node.jobs j (ending node o j);
  machines = set node.machines o.machine (ending node o j);
}

-- the child that dispatches the next operation of job j
abbrev pub child_of : JobShop → Node → ℕ → Node
child_of s node j = child_by node (coming s node j) j

-- job j has an operation left at a node
pub record IsLeftAt (s : JobShop) (node : Node) (j : ℕ) : Type 0 where
  pub inside : j < length node.steps
  pub left : number_in node.steps j < s.machines

-- the numbers of a list from one place up to another
abbrev pub part : ℕ → ℕ → List ℕ → List ℕ
part from to xs = take (to - from) (drop from xs)

-- How a node of so many jobs and machines is kept, which has dispatched so many operations: the jobs' ready times and
-- then the machines'; and the jobs' next steps, the jobs dispatched, and room for a job for each operation in all.
pub record IsKept (jobs machines depth : ℕ) (times bytes : List ℕ) : Type 0 where
  pub few_jobs : jobs ≤ max_jobs
  pub few_machines : machines ≤ max_machines
  pub times_fit : jobs + machines ≤ length times
  pub bytes_fit : jobs + jobs * machines ≤ length bytes
  pub within : (k : ℕ) → k < jobs + machines → number_in times k ≤ max_total
  pub steps : AreUpTo machines (take jobs bytes)
  pub dispatched : sum (take jobs bytes) ≡ depth

-- the schedule with this operation of job j dispatched
abbrev pub dispatched_by : State → Operation → ℕ → State
dispatched_by st o j = record {
  starts = set st.starts j (starts_of st j ++ max (number_in st.jobs j) (number_in st.machines o.machine) ∷ []);
  jobs = set st.jobs j (max (number_in st.jobs j) (number_in st.machines o.machine) + o.time);
  machines = set st.machines o.machine (max (number_in st.jobs j) (number_in st.machines o.machine) + o.time);
}

-- a schedule come to by dispatching jobs
pub record IsReached (s : JobShop) (st : State) : Type 0 where
  pub name : List ℕ
  pub ordered : IsOrder s name
  pub made : st ≡ state_of s name

-- A schedule come to by dispatching these jobs in order, or a part of them where one has no operation left.
pub record IsMade (s : JobShop) (order : List ℕ) (st : State) : Type 0 where
  pub name : List ℕ
  pub ordered : IsOrder s name
  pub made : st ≡ state_of s name
  pub same : IsOrder s order → name ≡ order

-- the start times of such a schedule
pub record IsPlanOf (s : JobShop) (order : List ℕ) (starts : List (List ℕ)) : Type 0 where
  pub schedule : State
  pub is_made : IsMade s order schedule
  pub starts_are : starts ≡ schedule.starts
