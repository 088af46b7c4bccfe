-- The operations that need a machine, and what is left of them at a node: their heads, times and tails.
use Rattle.std.specs.Prelude.{ℕ, ◌+◌, ◌-◌, nat_eq, nat_le, if◌then◌else◌, List, [], ◌∷◌, ◌++◌, map, filter, Bool}
use Rattle.inst_text.specs.declared.shop.Operation.{Operation}
use Rattle.inst_text.specs.Shop.{JobShop, row_time}
use Rattle.bb_shop.specs.Dispatching.{number_in}
use Rattle.bb_shop.specs.Bounds.{head_of}
use Rattle.bb_shop.specs.Working.{left_of}
use Rattle.bb_onemach.specs.declared.visit.Visit.{Visit}
use Rattle.bb_onemach.specs.declared.task.Task.{Task}

-- of a job's operations from step k on, those that need machine m
unfoldable pub row_visits : ℕ → ℕ → ℕ → List Operation → List Visit
row_visits m j k [] = []
row_visits m j k (o ∷ os) =
    if nat_eq o.machine m
    then record { job = j; step = k; time = o.time; tail = row_time os } ∷ row_visits m j (k + 1) os
    else row_visits m j (k + 1) os

-- of the operations of several jobs, the first of which is job j, those that need machine m
unfoldable pub rows_visits : ℕ → ℕ → List (List Operation) → List Visit
rows_visits m j [] = []
rows_visits m j (r ∷ rs) = row_visits m j 0 r ++ rows_visits m (j + 1) rs

-- the operations of a shop that need machine m, in the order of jobs and steps
abbrev pub visits : JobShop → ℕ → List Visit
visits s m = rows_visits m 0 s.rows

-- The heads of a job's operations, where the job is ready at this time: each starts at the earliest once the one
-- before it has ended and its machine is ready.
unfoldable pub heads : List ℕ → ℕ → List Operation → List ℕ
heads machines ready [] = []
heads machines ready (o ∷ os) =
    head_of machines ready o ∷ heads machines (head_of machines ready o + o.time) os

-- The head of the operation of job j at step k, which is left, where these are the jobs' next steps, the jobs' ready
-- times and the machines' ready times.
abbrev pub head_at : JobShop → List ℕ → List ℕ → List ℕ → ℕ → ℕ → ℕ
head_at s steps jobs machines j k =
    number_in (heads machines (number_in jobs j) (left_of s steps j)) (k - number_in steps j)

-- the operation is left
abbrev pub is_left : List ℕ → Visit → Bool
is_left steps v = nat_le (number_in steps v.job) v.step

-- its head, its time and its tail
abbrev pub task_of : JobShop → List ℕ → List ℕ → List ℕ → Visit → Task
task_of s steps jobs machines v =
    record { head = head_at s steps jobs machines v.job v.step; time = v.time; tail = v.tail }

-- what is left of these visits
abbrev pub left_tasks : JobShop → List ℕ → List ℕ → List ℕ → List Visit → List Task
left_tasks s steps jobs machines vs = map (task_of s steps jobs machines) (filter (is_left steps) vs)

-- what machine m still has to do
abbrev pub tasks : JobShop → List ℕ → List ℕ → List ℕ → ℕ → List Task
tasks s steps jobs machines m = left_tasks s steps jobs machines (visits s m)
