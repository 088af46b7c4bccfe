-- The tree of active schedules: a node's children dispatch only jobs that compete for the machine of the operation
-- that could end first.
use Rattle.std.specs.Prelude.{ℕ, ◌≡◌, ◌≤◌, ◌<◌, nat_eq, nat_lt, ◌&&◌, ◌||◌, if◌then◌else◌, List, [], ◌∷◌, filter, Bool}
use Rattle.inst_text.specs.Shop.{JobShop, operations}
use Rattle.bb_problem.specs.Tree.{Tree}
use Rattle.bb_problem.specs.Meaning.{Meaning}
use Rattle.bb_shop.specs.declared.booking.Booking.{Booking}
use Rattle.bb_shop.specs.Plans.{operation_at, start_at, IsOperation, IsFeasible, makespan}
use Rattle.bb_shop.specs.Judging.{booked}
use Rattle.bb_shop.specs.Dispatching.{State, number_in, step_of, next_of, next_start, state_of, IsOrder}
use Rattle.bb_shop.specs.Branching.{Node, Stands, children_of, tree_size, least_cost}
use Rattle.bb_onemach.specs.Bounds.{bound_of}

-- of two jobs, the one whose next operation ends first, and the one before on a tie
abbrev pub sooner : (ℕ → Booking) → ℕ → ℕ → ℕ
sooner next j k = if nat_lt (next k).end (next j).end then k else j

-- of a job and those after it, the one whose next operation ends first, and the first of them on a tie
unfoldable pub soonest : (ℕ → Booking) → ℕ → List ℕ → ℕ
soonest next j [] = j
soonest next j (k ∷ ks) = soonest next (sooner next j k) ks

-- of these jobs, the one whose next operation ends first, and the first of them on a tie; of none, 0
abbrev pub critical : (ℕ → Booking) → List ℕ → ℕ
critical next [] = 0
critical next (j ∷ js) = soonest next j js

-- job i is job j, or its next operation needs the same machine as that of j and starts before that one ends
abbrev pub competes : (ℕ → Booking) → ℕ → ℕ → Bool
competes next j i = nat_eq i j || (nat_eq (next i).machine (next j).machine && nat_lt (next i).start (next j).end)

-- of these jobs, those that compete with the one whose next operation ends first
abbrev pub competing : (ℕ → Booking) → List ℕ → List ℕ
competing next js = filter (competes next (critical next js)) js

-- when the next operations of the jobs need their machines
abbrev pub next_in : JobShop → State → ℕ → Booking
next_in s st j = booked (next_of s st j) (next_start s st j)

-- the children: none where all operations are dispatched
unfoldable pub active_children : JobShop → List ℕ → List ℕ
active_children s name = competing (next_in s (state_of s name)) (children_of s name)

abbrev pub tree_of : JobShop → Tree
tree_of s = record { children = active_children s; bound = bound_of s; height = operations s }

-- A feasible plan of at most this cost keeps what has been dispatched, and starts every other operation no earlier
-- than its job and its machine are ready.
pub record Reaches (s : JobShop) (name : List ℕ) (v : ℕ) : Type 0 where
  pub order : IsOrder s name
  pub plan : List (List ℕ)
  pub feasible : IsFeasible s plan
  pub cost : makespan s plan ≤ v
  pub kept : (j k : ℕ) → IsOperation s j k → k < step_of (state_of s name) j
      → start_at plan j k ≡ start_at (state_of s name).starts j k
  pub ready : (j k : ℕ) → IsOperation s j k → step_of (state_of s name) j ≤ k
      → number_in (state_of s name).jobs j ≤ start_at plan j k
  pub free : (j k : ℕ) → IsOperation s j k → step_of (state_of s name) j ≤ k
      → number_in (state_of s name).machines (operation_at s j k).machine ≤ start_at plan j k

-- what a shop means to a search: its schedules, and the tree of active schedules
abbrev pub meaning_of : JobShop → Meaning Node (List (List ℕ))
meaning_of s = record {
  is_feasible = IsFeasible s;
  cost_of = makespan s;
  least = least_cost s;
  tree = tree_of s;
  tree_size = tree_size s;
  stands = Stands s;
  reaches = Reaches s;
}
