-- The bound of a node.
use Rattle.std.specs.Prelude.{ℕ, List, [], length, map, max}
use Rattle.inst_text.specs.Shop.{JobShop}
use Rattle.bb_shop.specs.Dispatching.{State, state_of}
use Rattle.bb_shop.specs.Bounds.{greatest, each_from}
use Rattle.bb_shop.specs.Working.{finish_at}
use Rattle.bb_onemach.specs.Visits.{tasks}
use Rattle.bb_onemach.specs.Thresholds.{one_machine_bound}

-- The greatest of the jobs' finishes, the machines' ready times and the machines' threshold bounds, where these are
-- the jobs' next steps, the jobs' ready times and the machines' ready times.
unfoldable pub bound_by : JobShop → List ℕ → List ℕ → List ℕ → ℕ
bound_by s steps jobs machines =
    max (greatest (each_from (finish_at s steps jobs machines) 0 (length s.rows)))
    (max (greatest machines)
    (greatest (each_from (λ m. one_machine_bound (tasks s steps jobs machines m)) 0 s.machines)))

-- the bound of a state; a job's next step is the number of its start times
abbrev pub bound_at : JobShop → State → ℕ
bound_at s st = bound_by s (map length st.starts) st.jobs st.machines

-- the bound of a node
abbrev pub bound_of : JobShop → List ℕ → ℕ
bound_of s name = bound_at s (state_of s name)

-- the least makespan that the bound of the empty list allows
abbrev pub root_bound : JobShop → ℕ
root_bound s = bound_of s []
