-- What the outcomes of a search mean.
use Rattle.std.specs.Prelude.{ℕ, ◌≡◌, ◌*◌, ◌<◌, ◌≤◌}
use Rattle.pq_model.specs.declared.passes.Known.{Known}
use Rattle.bb_problem.specs.Tree.{Tree, needed, unavoidable, open_at_first}
use Rattle.bb_problem.specs.Meaning.{Meaning}
use Rattle.bb_pool.specs.Endings.{EndsAt, IsFullMark}
use Rattle.bb_pool.specs.declared.outcome.Outcome.{Outcome}
use Rattle.bb_pool.specs.declared.outcome.Outcome.TheVariants as outcomes
use Rattle.bb_shared.specs.declared.control.stop.Stop.{Stop}
use Rattle.bb_shared.specs.declared.control.stop.Stop.TheVariants.{NodeLimit, Full, NoMemory}

-- the plan is feasible, this is its cost, and no feasible plan costs less
pub record IsOptimal {P : Type 0} (feasible : P → Type 0) (cost_of : P → ℕ) (plan : P) (cost : ℕ) : Type 0 where
  pub feasible_is : feasible plan
  pub cost_is : cost ≡ cost_of plan
  pub least : (other : P) → feasible other → cost ≤ cost_of other

-- The node limit and the capacity leave room for what no search gets around: the nodes whose bounds are below the
-- least cost, as those of all nodes above them are, and the nodes that are open at the first leaf.
pub record LeaveRoom (tree : Tree) (least nodes capacity : ℕ) : Type 0 where
  pub for_nodes : unavoidable tree least ≤ nodes
  pub for_open : open_at_first tree ≤ capacity

-- A search that has to make so many nodes asked for more than the limit, and for no more than it has to make.
pub record IsOverLimit (needs nodes asked limit : ℕ) : Type 0 where
  pub limit_is : limit ≡ nodes
  pub over : limit < asked
  pub within : asked ≤ needs

-- It found the queue full at this place, where an insert was answered so: the capacity is below the node limit and
-- below what it has to make.
pub record IsFullAt (needs nodes capacity place : ℕ) : Type 0 where
  pub below_limit : capacity < nodes
  pub below_needed : capacity < needs
  pub from : capacity ≤ place
  pub until : place < 2 * needs
  pub told : IsFullMark 1 capacity place

-- What a best plan says of a search with one caller, whose pass has then made these calls.
pub record IsBest {N P : Type 0} (m : Meaning N P) (nodes capacity : ℕ) (plan : P) (cost : ℕ) (known : Known)
    : Type 0 where
  pub optimal : IsOptimal m.is_feasible m.cost_of plan cost
  pub limits : LeaveRoom m.tree m.least nodes capacity
  pub ended : EndsAt 1 capacity cost known

-- What each outcome of a search with one caller says, under this node limit, on a queue of this capacity. That
-- there is no memory says nothing.
abbrev pub IsOutcome : {N P : Type 0} → Meaning N P → ℕ → ℕ → Outcome P → Type 0
IsOutcome m nodes capacity (outcomes.Best plan cost) = (known : Known) × IsBest m nodes capacity plan cost known
IsOutcome m nodes capacity (outcomes.NodeLimit asked limit) = IsOverLimit (needed m.tree m.least) nodes asked limit
IsOutcome m nodes capacity (outcomes.Full place) = IsFullAt (needed m.tree m.least) nodes capacity place
IsOutcome m nodes capacity outcomes.NoMemory = Unit {0}

-- what ends a search early, under this node limit
abbrev pub outcome_of : {P : Type 0} → Stop → ℕ → Outcome P
outcome_of (NodeLimit asked) limit = outcomes.NodeLimit asked limit
outcome_of (Full place) limit = outcomes.Full place
outcome_of NoMemory limit = outcomes.NoMemory

-- the same of what ends a search early
abbrev pub IsStop : {N P : Type 0} → Meaning N P → ℕ → ℕ → Stop → Type 0
IsStop m nodes capacity stop = IsOutcome m nodes capacity (outcome_of stop nodes)

-- a fact of the numbers, where the node limit was too low
abbrev pub IfNodeLimit : {P : Type 0} → Outcome P → (ℕ → ℕ → Type 0) → Type 0
IfNodeLimit (outcomes.NodeLimit asked limit) fact = fact asked limit
IfNodeLimit _ fact = Unit {0}
