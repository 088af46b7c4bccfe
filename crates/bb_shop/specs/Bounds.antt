-- What a schedule that goes on from a state ends at, at least.
use Rattle.std.specs.Prelude.{ℕ, zero, suc, ◌+◌, List, [], ◌∷◌, length, drop, max, min, nat_eq, if◌then◌else◌}
use Rattle.inst_text.specs.declared.shop.Operation.{Operation}
use Rattle.inst_text.specs.Shop.{JobShop, row_time}
use Rattle.bb_shop.specs.Plans.{row_at}
use Rattle.bb_shop.specs.Dispatching.{State, number_in, step_of, state_of}

-- the greatest of these numbers, and 0 of none
abbrev pub greatest : List ℕ → ℕ
greatest [] = 0
greatest (x ∷ xs) = max x (greatest xs)

-- The head of an operation is when it starts at the earliest: once what is before it in its job has ended, and
-- its machine is ready.
abbrev pub head_of : List ℕ → ℕ → Operation → ℕ
head_of machines ready o = max ready (number_in machines o.machine)

-- When a job that is ready at this time has finished these operations, at the earliest.
unfoldable pub finish : List ℕ → ℕ → List Operation → ℕ
finish machines ready [] = ready
finish machines ready (o ∷ os) = finish machines (head_of machines ready o + o.time) os

-- What some operations ask of one machine: the least of their heads, the sum of their times, and the least of
-- their tails. The tail of an operation is the sum of the times after it in its job.
pub data Load : Type 0 where
  Idle : Load
  Busy : ℕ → ℕ → ℕ → Load

-- the load of two groups of operations
unfoldable pub joined : Load → Load → Load
joined Idle b = b
joined (Busy head time tail) Idle = Busy head time tail
joined (Busy head time tail) (Busy h t l) = Busy (min head h) (time + t) (min tail l)

-- what this operation asks of machine m
abbrev pub load_of : ℕ → Operation → ℕ → ℕ → Load
load_of m o head tail = if nat_eq o.machine m then Busy head o.time tail else Idle

-- what these operations of a job that is ready at this time ask of machine m
unfoldable pub job_load : List ℕ → ℕ → ℕ → List Operation → Load
job_load machines m ready [] = Idle
job_load machines m ready (o ∷ os) =
    joined (load_of m o (head_of machines ready o) (row_time os))
    (job_load machines m (head_of machines ready o + o.time) os)

-- the bound of a machine: the least head, the sum of the times and the least tail
abbrev pub machine_bound : Load → ℕ
machine_bound Idle = 0
machine_bound (Busy head time tail) = head + time + tail

-- the operations of job j that are left
abbrev pub rest_of : JobShop → State → ℕ → List Operation
rest_of s st j = drop (step_of st j) (row_at s.rows j)

-- something of each number from j on, n of them
abbrev pub each_from : {A : Type 0} → (ℕ → A) → ℕ → ℕ → List A
each_from f j zero = []
each_from f j (suc n) = f j ∷ each_from f (j + 1) n

-- when each job finishes at the earliest
abbrev pub finishes : JobShop → State → List ℕ
finishes s st = each_from (λ j. finish st.machines (number_in st.jobs j) (rest_of s st j)) 0 (length s.rows)

-- what all these loads are together
abbrev pub all_joined : List Load → Load
all_joined [] = Idle
all_joined (l ∷ ls) = joined l (all_joined ls)

-- what all operations that are left ask of machine m
abbrev pub load : JobShop → State → ℕ → Load
load s st m =
    all_joined (each_from (λ j. job_load st.machines m (number_in st.jobs j) (rest_of s st j)) 0 (length s.rows))

-- the bounds of the machines that have operations left; of the others, 0
abbrev pub machine_bounds : JobShop → State → List ℕ
machine_bounds s st = each_from (λ m. machine_bound (load s st m)) 0 s.machines

-- The greatest of all jobs' finishes, all machines' ready times and all machines' bounds.
unfoldable pub bound_at : JobShop → State → ℕ
bound_at s st = max (greatest (finishes s st)) (max (greatest st.machines) (greatest (machine_bounds s st)))

-- the bound of a node
abbrev pub bound_of : JobShop → List ℕ → ℕ
bound_of s name = bound_at s (state_of s name)

-- the least makespan that the bound of the empty list allows
abbrev pub root_bound : JobShop → ℕ
root_bound s = bound_of s []
