-- What the program makes of a node: tables of heads and tasks.
use Rattle.std.specs.Prelude.{ℕ, ◌≡◌, ◌+◌, ◌*◌, ◌≤◌, ◌<◌, nat_eq, nat_le, if◌then◌else◌, List, [], ◌∷◌, length, max}
use Rattle.std.specs.Prelude.{All, AllPairs, slice_index_or}
use Rattle.std.specs.List.Sorted.{IsPermutation}
use Rattle.inst_text.specs.Limits.{max_total}
use Rattle.inst_text.specs.Shop.{JobShop}
use Rattle.bb_problem.specs.Tree.{total}
use Rattle.bb_shop.specs.declared.prepared_operation.PreparedOperation.{PreparedOperation}
use Rattle.bb_shop.specs.Dispatching.{number_in}
use Rattle.bb_onemach.specs.declared.visit.Visit.{Visit}
use Rattle.bb_onemach.specs.declared.task.Task.{Task}
use Rattle.bb_onemach.specs.Visits.{visits, head_at}

-- the operations of job j from step k on that need machine m, as the shop's table has them
unfoldable pub prepared_visits : ℕ → ℕ → ℕ → List PreparedOperation → List Visit
prepared_visits m j k [] = []
prepared_visits m j k (p ∷ ps) =
    if nat_eq p.operation.machine m
    then record { job = j; step = k; time = p.operation.time; tail = p.tail } ∷ prepared_visits m j (k + 1) ps
    else prepared_visits m j (k + 1) ps

-- no visit has a tail above that of one before it
abbrev pub TailsFall : List Visit → Type 0
TailsFall vs = AllPairs (λ (v w : Visit). w.tail ≤ v.tail) vs

-- the operations that need machine m, by falling tails
pub record IsRow (s : JobShop) (m : ℕ) (row : List Visit) : Type 0 where
  pub same : IsPermutation (visits s m) row
  pub falls : TailsFall row

-- such a list for each machine
pub record AreRows (s : JobShop) (rows : List (List Visit)) : Type 0 where
  pub count : length rows ≡ s.machines
  pub each : (m : ℕ) → m < s.machines → IsRow s m (slice_index_or rows m [])

-- no task has a tail above that of one before it
abbrev pub Falls : List Task → Type 0
Falls xs = AllPairs (λ (x y : Task). y.tail ≤ x.tail) xs

-- the tasks' numbers are within the limits
pub record AreSmall (xs : List Task) : Type 0 where
  pub times : total (λ (x : Task). x.time) xs ≤ max_total
  pub heads : All (λ (x : Task). x.head ≤ 2 * max_total) xs
  pub tails : All (λ (x : Task). x.tail ≤ max_total) xs

-- The greatest of the sums of a head, of the times so far of tasks with no lower head, and of the tail of the last of
-- them, where so much time was before.
unfoldable pub swept : ℕ → ℕ → List Task → ℕ
swept h time [] = 0
swept h time (x ∷ xs) =
    if nat_le h x.head
    then max (h + (time + x.time) + x.tail) (swept h (time + x.time) xs)
    else swept h time xs

-- a visit's job has a next step, and its operation has a place in the table of heads
pub record IsPlaced (machines : ℕ) (steps heads : List ℕ) (v : Visit) : Type 0 where
  pub job : v.job < length steps
  pub place : v.job * machines + v.step < length heads

-- the task of a visit, with its head from the table
abbrev pub task_by : ℕ → List ℕ → Visit → Task
task_by machines heads v = record { head = number_in heads (v.job * machines + v.step); time = v.time; tail = v.tail }

-- the table has the heads of all operations that are left, by job and step
pub record HasHeads (s : JobShop) (steps jobs machines heads : List ℕ) : Type 0 where
  pub each : (j k : ℕ) → j < length s.rows → number_in steps j ≤ k → k < s.machines
      → number_in heads (j * s.machines + k) ≡ head_at s steps jobs machines j k

-- these numbers are written into a list, the first of them at this place
pub record IsWritten (place : ℕ) (numbers old new : List ℕ) : Type 0 where
  pub count : length new ≡ length old
  pub there : (i : ℕ) → i < length numbers → number_in new (place + i) ≡ number_in numbers i
  pub before : (k : ℕ) → k < place → number_in new k ≡ number_in old k
  pub behind : (k : ℕ) → place + length numbers ≤ k → number_in new k ≡ number_in old k
