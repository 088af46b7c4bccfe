-- What two seats have made, one of whose calls was held.
use Rattle.std.specs.Prelude.{◌≡◌, ℕ, List, [], ◌∷◌, ◌++◌, Bool, true, false, Option, Some, None}
use Rattle.pq_model.specs.declared.passes.Call.{Call}
use Rattle.pq_model.specs.declared.passes.Known.{Known}
use Rattle.pq_model.specs.Passes.{lane, lanes}
use Rattle.pq_checks.specs.declared.wanted.Wanted.{Wanted}
use Rattle.pq_checks.specs.declared.held.HeldCall.{HeldCall}
use Rattle.pq_checks.specs.Checks.{AreWanted, AreHeld, HasMade}

-- the call that has to wait, where there is one
abbrev pub one_or_none : Option Wanted → List Wanted
one_or_none None = []
one_or_none (Some w) = w ∷ []

-- the seat of the held call has made that, and what it made before it in the same way
pub record HasHeld (row : HeldCall) (before now : Known) : Type 0 where
  pub calls : List Call
  pub held : AreHeld row.most row.held calls
  pub made : HasMade before calls now

-- the other seat has made all its calls
pub record HasAnswered (row : HeldCall) (before now : Known) : Type 0 where
  pub calls : List Call
  pub wanted : AreWanted (row.beside.now ++ one_or_none row.waits) calls
  pub made : HasMade before calls now

-- the lanes of the two seats, where the first or the second held
abbrev pub AreLanes : Bool → List Call → List Call → List Call → Known → Type 0
AreLanes true before held beside k = lanes k ≡ lane 1 (before ++ held) ∷ lane 2 beside ∷ []
AreLanes false before held beside k = lanes k ≡ lane 1 (before ++ beside) ∷ lane 2 held ∷ []

-- the joined pass keeps the calls of the row, each answered as it is wanted, and no others
pub record IsOfRow (row : HeldCall) (k : Known) : Type 0 where
  pub before : List Call
  pub held : List Call
  pub beside : List Call
  pub before_are : AreWanted row.before.now before
  pub held_are : AreHeld row.most row.held held
  pub beside_are : AreWanted (row.beside.now ++ one_or_none row.waits) beside
  pub lanes_are : AreLanes row.first_is_held before held beside k
