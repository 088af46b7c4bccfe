-- Dispatching: the operations are started one after another, each as early as its job and its machine allow.
use Rattle.std.specs.Prelude.{ℕ, ◌+◌, ◌<◌, List, [], ◌∷◌, ◌++◌, length, max, set, replicate, slice_index_or}
use Rattle.inst_text.specs.declared.shop.Operation.{Operation}
use Rattle.inst_text.specs.Shop.{JobShop}
use Rattle.bb_shop.specs.Plans.{operation_at}

-- What has been dispatched: the start times of each job's first operations, and when each job and each machine
-- is ready for its next one.
pub record State : Type 0 where
  pub starts : List (List ℕ)
  pub jobs : List ℕ
  pub machines : List ℕ

-- nothing is dispatched, and all are ready at 0
abbrev pub opened : JobShop → State
opened s = record {
  starts = replicate (length s.rows) [];
  jobs = replicate (length s.rows) 0;
  machines = replicate s.machines 0;
}

-- the number at this place of a list; past its end, 0
abbrev pub number_in : List ℕ → ℕ → ℕ
number_in xs k = slice_index_or xs k 0

-- the start times of the job's operations so far
abbrev pub starts_of : State → ℕ → List ℕ
starts_of st j = slice_index_or st.starts j []

-- the step that the job comes to next
abbrev pub step_of : State → ℕ → ℕ
step_of st j = length (starts_of st j)

-- the job's next operation
abbrev pub next_of : JobShop → State → ℕ → Operation
next_of s st j = operation_at s j (step_of st j)

-- When it starts: once its job and its machine are ready.
abbrev pub next_start : JobShop → State → ℕ → ℕ
next_start s st j = max (number_in st.jobs j) (number_in st.machines (next_of s st j).machine)

-- when it ends
abbrev pub next_end : JobShop → State → ℕ → ℕ
next_end s st j = next_start s st j + (next_of s st j).time

-- The job's next operation is dispatched: its job and its machine are ready at its end.
unfoldable pub dispatched : JobShop → State → ℕ → State
dispatched s st j = record {
  starts = set st.starts j (starts_of st j ++ next_start s st j ∷ []);
  jobs = set st.jobs j (next_end s st j);
  machines = set st.machines (next_of s st j).machine (next_end s st j);
}

-- these jobs' next operations are dispatched one after another
unfoldable pub state_from : JobShop → State → List ℕ → State
state_from s st [] = st
state_from s st (j ∷ js) = state_from s (dispatched s st j) js

-- what has been dispatched once these jobs are
abbrev pub state_of : JobShop → List ℕ → State
state_of s name = state_from s (opened s) name

-- the job has an operation left
abbrev pub IsLeft : JobShop → State → ℕ → Type 0
IsLeft s st j = (j < length s.rows) × (step_of st j < s.machines)

-- each of these jobs has an operation left when it is dispatched
abbrev pub AreLeft : JobShop → State → List ℕ → Type 0
AreLeft s st [] = Unit {0}
AreLeft s st (j ∷ js) = IsLeft s st j × AreLeft s (dispatched s st j) js

-- jobs that can be dispatched from the beginning on, in this order
abbrev pub IsOrder : JobShop → List ℕ → Type 0
IsOrder s name = AreLeft s (opened s) name
