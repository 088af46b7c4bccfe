-- What the outcomes of a search by several workers mean.
use Rattle.std.specs.Prelude.{ℕ, ◌≡◌, ◌≢◌, ◌+◌, ◌<◌, ◌≤◌, [], Contains, Some, IsSomeAnd}
use Rattle.pq_model.specs.declared.passes.Known.{Known}
use Rattle.bb_problem.specs.Limits.{size_limit}
use Rattle.bb_problem.specs.Meaning.{Meaning}
use Rattle.bb_shared.specs.declared.control.stop.Stop.{Stop}
use Rattle.bb_shared.specs.declared.control.told.Told.{Told}
use Rattle.bb_shared.specs.Stores.{AreMatched}
use Rattle.bb_pool.specs.declared.outcome.Outcome.{Outcome}
use Rattle.bb_pool.specs.declared.outcome.Outcome.TheVariants as outcomes
use Rattle.bb_pool.specs.Costs.{limit_of}
use Rattle.bb_pool.specs.Endings.{EndsAt, IsFullMark}
use Rattle.bb_pool.specs.Outcomes.{IsOptimal, outcome_of}
use Rattle.bb_pool.specs.Underway.{cost_so_far}
use Rattle.bb_pool.specs.Working.{IsRooted}
use Rattle.bb_pool.specs.Together.{Doing, AtWork}

-- What each outcome says, under this node limit, on a queue of this capacity and with so many seats. That there is no
-- memory says nothing.
abbrev pub IsSearchOutcome : {N P : Type 0} → Meaning N P → ℕ → ℕ → ℕ → Outcome P → Type 0
IsSearchOutcome m nodes capacity seats (outcomes.Best plan cost) =
    IsOptimal m.is_feasible m.cost_of plan cost × (known : Known) × EndsAt seats capacity cost known
IsSearchOutcome m nodes capacity seats (outcomes.NodeLimit asked limit) =
    (limit ≡ nodes) × (limit < asked) × (limit < m.tree_size) × (m.tree_size < size_limit → asked ≤ m.tree_size)
IsSearchOutcome m nodes capacity seats (outcomes.Full place) =
    (capacity < nodes + seats) × IsFullMark seats capacity place
IsSearchOutcome m nodes capacity seats outcomes.NoMemory = Unit {0}

-- the same of what ends a search early
abbrev pub IsSearchStop : {N P : Type 0} → Meaning N P → ℕ → ℕ → ℕ → Stop → Type 0
IsSearchStop m nodes capacity seats stop = IsSearchOutcome m nodes capacity seats (outcome_of stop nodes)

-- The first stop is the answer: the one that these workers know as the first. Where they set stops, they know the
-- first, and it is one of theirs.
pub record IsFirstStop {P : Type 0} (told : Told) (nodes : ℕ) (answer : Outcome P) : Type 0 where
  pub known : (stop : Stop) → told.first ≡ Some stop → answer ≡ outcome_of stop nodes
  pub set : told.stops ≢ [] → (stop : Stop) × (told.first ≡ Some stop) × Contains told.stops stop
      × (answer ≡ outcome_of stop nodes)

-- What all workers did, joined into one, is a search that has found a best plan. The root was put and an entry for it
-- inserted. Each entry that was removed is handled. Each node that was taken had its entry removed, and is the one that
-- was put under its number. A leaf that was taken expands to the plan, and it is optimal. The last call of all asked
-- for an entry below its cost, and there was none.
pub record HasFoundBest {N P : Type 0} (m : Meaning N P) (seats capacity : ℕ) (w : Doing N P) : Type 0 where
  pub rooted : IsRooted m w.known w.stored.puts
  pub working : AtWork m w
  pub matched : AreMatched w.stored.puts w.stored.takes
  pub ends : EndsAt seats capacity (limit_of (cost_so_far w.found)) w.known
  pub optimal : IsSomeAnd w.found (λ f. IsOptimal m.is_feasible m.cost_of f.plan f.cost)

-- A best plan, with its cost, is the one that was found by what all workers did. Other outcomes say nothing here.
abbrev pub IsFoundByAll : {N P : Type 0} → Meaning N P → ℕ → ℕ → Outcome P → Type 0
IsFoundByAll {N} {P} m seats capacity (outcomes.Best plan cost) =
    (w : Doing N P) × HasFoundBest m seats capacity w × IsSomeAnd w.found (λ f. (f.plan ≡ plan) × (f.cost ≡ cost))
IsFoundByAll m seats capacity _ = Unit {0}
