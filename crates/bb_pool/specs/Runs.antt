-- A worker's run, from its first turn to its last, and two workers that are joined.
use Rattle.std.specs.Prelude.{ℕ, ◌≡◌, ◌+◌, List, []}
use Rattle.pq_model.specs.declared.passes.Known.{Known}
use Rattle.pq_model.specs.Passes.{joined_with, Knows}
use Rattle.bb_problem.specs.Meaning.{Meaning}
use Rattle.bb_shared.specs.declared.control.stop.Stop.{Stop}
use Rattle.bb_shared.specs.declared.control.told.Told.{Told}
use Rattle.bb_shared.specs.Stores.{KnowsStore, stores_joined}
use Rattle.bb_shared.specs.Controls.{IsTellable, controls_joined}
use Rattle.pq_api.specs.Answers.{EachAt}
use Rattle.bb_pool.specs.declared.workers.shared.Worker.{Worker}
use Rattle.bb_pool.specs.declared.workers.shared.Shared.{Shared}
use Rattle.bb_pool.specs.Limits.{idle_calls}
use Rattle.bb_pool.specs.Working.{lesser_found}
use Rattle.bb_pool.specs.Together.{Doing, doing, AtWork, IsCounted, Follows, IsCause, IsOneOf, IsTogether}

-- it has gone on from the first of these moments to the second, and is at work
pub record HasRun {N L : Type 0} (m : Meaning N L) (nodes idle : ℕ) (v w : Doing N L) : Type 0 where
  pub follows : Follows v w
  pub counted : IsCounted nodes idle w
  pub working : AtWork m w

-- it has gone on until it stopped, for this cause
pub record HasStopped {N L : Type 0} (nodes : ℕ) (v w : Doing N L) (stop : Stop) : Type 0 where
  pub follows : Follows v w
  pub counted : IsCounted nodes (idle_calls + 1) w
  pub cause : IsCause nodes w.known w.stored.draws stop
  pub tellable : IsTellable stop

-- What looking at the control leaves as it was.
pub record IsStill (c d : Told) : Type 0 where
  pub own : d.own ≡ c.own
  pub read : d.read ≡ c.read
  pub seats : d.seats ≡ c.seats
  pub parts : d.parts ≡ c.parts
  pub stops : d.stops ≡ c.stops
  pub opened : d.opened ≡ c.opened
  pub closed : d.closed ≡ c.closed

-- the second worker was joined into the first, which has then these
pub record IsJoinedOf {N L : Type 0} (nodes seats capacity : ℕ) (v other w : Doing N L) : Type 0 where
  pub known : w.known ≡ joined_with v.known other.known
  pub stored : w.stored ≡ stores_joined v.stored other.stored
  pub told : w.told ≡ controls_joined v.told other.told
  pub found : w.found ≡ lesser_found v.found other.found
  pub made : w.made ≡ v.made
  pub knows_store : KnowsStore nodes w.stored
  pub knows : Knows seats capacity w.known

-- The worker of this number is about to take its first turn.
abbrev pub IsReady : {Q A N L : Type 0} → (Q → A → Type 0) → (A → Known) → (Q → ℕ) → (Q → ℕ) → Meaning N L
    → Shared Q N → ℕ → Worker A N L → Type 0
IsReady belongs known seats_of capacity_of m shared n w = IsOneOf belongs shared w × (w.control.kept.stops ≡ [])
    × IsTogether m shared.nodes (seats_of shared.queue) (capacity_of shared.queue) idle_calls n n (doing known w)

-- The worker of this number has taken its last turn.
abbrev pub HasEnded : {Q A N L : Type 0} → (Q → A → Type 0) → (A → Known) → (Q → ℕ) → (Q → ℕ) → Meaning N L
    → Shared Q N → ℕ → Worker A N L → Type 0
HasEnded belongs known seats_of capacity_of m shared n w = IsOneOf belongs shared w
    × IsTogether m shared.nodes (seats_of shared.queue) (capacity_of shared.queue) (idle_calls + 1) n n (doing known w)

-- These workers, which have the numbers above this one, have ended.
abbrev pub AreEnded : {Q A N L : Type 0} → (Q → A → Type 0) → (A → Known) → (Q → ℕ) → (Q → ℕ) → Meaning N L
    → Shared Q N → ℕ → List (Worker A N L) → Type 0
AreEnded belongs known seats_of capacity_of m shared n workers =
    EachAt (λ k w. HasEnded belongs known seats_of capacity_of m shared (n + k + 1) w) workers
