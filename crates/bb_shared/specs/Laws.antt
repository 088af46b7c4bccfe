-- What follows from the definitions of the store and of the control.
use Rattle.std.specs.Prelude.{ℕ, ◌≡◌, ◌≢◌, ◌+◌, ◌-◌, ◌<◌, ◌≤◌, Some}
use Rattle.bb_problem.specs.Limits.{cost_limit}
use Rattle.bb_shared.specs.declared.control.stop.Stop.{Stop}
use Rattle.bb_shared.specs.declared.store.drawn.Drawn.TheVariants.{First}
use Rattle.bb_shared.specs.declared.store.stored.Stored.{Stored}
use Rattle.bb_shared.specs.Stores.{numbered, with_put, HasNoOver, IsDrawn, IsFree}
use Rattle.bb_shared.specs.Controls.{cost_in, stop_word, stop_in}

-- the seat may put under each number that it has just drawn
abbrev pub DrawnAreFree : Type 0 → Type 0
DrawnAreFree N = (before now : Stored N) (o count limit number : ℕ)
    → IsDrawn before count limit (First o) now → o ≤ number → number < o + count → IsFree now number

-- a seat that was never answered Over is still so after an answer First
abbrev pub FirstMayDrawAgain : Type 0 → Type 0
FirstMayDrawAgain N = (before now : Stored N) (o count limit : ℕ)
    → HasNoOver before → IsDrawn before count limit (First o) now → HasNoOver now

-- after a put under one number the seat may still put under its others
abbrev pub OthersStayFree : Type 0 → Type 0
OthersStayFree N = (s : Stored N) (number other : ℕ) (node : N)
    → IsFree s number → number ≢ other → IsFree (with_put s (numbered other node)) number

-- the best word tells the cost
abbrev pub CostsAreTold : Type 0
CostsAreTold = (cost : ℕ) → cost < cost_limit → cost_in (cost_limit - cost) ≡ Some cost

-- and the stop word the stop
abbrev pub StopsAreTold : Type 0
StopsAreTold = (stop : Stop) → stop_in (stop_word stop) ≡ Some stop
