-- The rule of a control's table, and what each of its steps tells.
-- The open word counts what is open, modulo 2^64. The best word is 2^26 less the least cost that was told, or 0. The
-- stop word is that of the first stop, or 0. They lie 16 words apart, so that no two share a cache line.
use Rattle.std.specs.Prelude.{ℕ, ◌≡◌, ◌+◌, ◌-◌, ◌/◌, ◌%◌, ◌^◌, ◌<◌, ◌≤◌, ◌⊎◌}
use Rattle.std.specs.Prelude.{List, [], length, Contains, sum_by, slice_index, Option, Some, None, IfSome}
use mathlib.Core.Option.{some}
use lib.ListN.{get_elem?}
use Rattle.atomic_table.specs.Table.{State, Me, Step}
use Rattle.bb_problem.specs.Limits.{cost_limit}
use Rattle.bb_shared.specs.declared.control.stop.Stop.{Stop}
use Rattle.bb_shared.specs.declared.control.told.Told.{Told}
use Rattle.bb_shared.specs.Controls.{new_told, with_cost, with_opened, with_closed, with_load}
use Rattle.bb_shared.specs.Controls.{cost_in, stop_word, stop_in, IsTellable, IsLeftOpen}
use Rattle.bb_shared.specs.Controls.{IsRead, IsStopSet, IsStopRead, KnowsControl}

abbrev pub open_at : ℕ
open_at = 0

abbrev pub best_at : ℕ
best_at = 16

abbrev pub stop_at : ℕ
stop_at = 32

abbrev pub control_words : ℕ
control_words = 33

-- the best word that a cost asks for
abbrev pub rank : Option ℕ → ℕ
rank None = 0
rank (Some cost) = cost_limit - cost

-- a cost that can be told
abbrev pub IsSmall : Option ℕ → Type 0
IsSmall cost = IfSome cost (λ c. c < cost_limit)

abbrev pub word_of : Option Stop → ℕ
word_of None = 0
word_of (Some stop) = stop_word stop

abbrev pub parts_in : Told → ℕ
parts_in v = v.parts

abbrev pub opened_in : Told → ℕ
opened_in v = v.opened

abbrev pub closed_in : Told → ℕ
closed_in v = v.closed

-- the view of a seat that was joined into another, and of one that gave all its parts away
pub record IsUnheard (v : Told) : Type 0 where
  pub own : v.own ≡ None
  pub stops : v.stops ≡ []
  pub opened : v.opened ≡ 0
  pub closed : v.closed ≡ 0

-- What the rule says of one view. No cost that was told or read is below the best, and no stop that is known to be the
-- first is another than the first.
pub record FitsControl (seats best : ℕ) (first : Option Stop) (v : Told) : Type 0 where
  pub idle : v.parts ≡ 0 → IsUnheard v
  pub whole : 0 < v.parts → v.seats ≡ seats
  pub small : IsSmall v.own
  pub small_read : IsSmall v.read
  pub own : rank v.own ≤ best
  pub read : rank v.read ≤ best
  pub first_is : (known : Stop) → v.first ≡ Some known → first ≡ Some known
  pub stops : first ≡ None → v.stops ≡ []

-- a view at this place tells the best
pub record TellsBest (views : List Told) (best : ℕ) : Type 0 where
  pub j : ℕ
  pub view : Told
  pub at : get_elem? views j ≡ some view
  pub is : best ≡ rank view.own

-- and a view tells the stop
pub record TellsStop (views : List Told) (stop : Stop) : Type 0 where
  pub j : ℕ
  pub view : Told
  pub at : get_elem? views j ≡ some view
  pub has : Contains view.stops stop

-- The parts add up to all seats, the open word counts what all added less what all took away, the best word is that of
-- a cost told, and the stop word is that of a stop told.
pub record IsControl {S : Type 0} (seats : ℕ) (s : State S Told) : Type 0 where
  pub wide : length s.words ≡ control_words
  pub parts : sum_by parts_in s.views ≡ seats
  pub counted : (slice_index s.words open_at + sum_by closed_in s.views) % 2 ^ 64 ≡ sum_by opened_in s.views % 2 ^ 64
  pub best : (slice_index s.words best_at ≡ 0) ⊎ TellsBest s.views (slice_index s.words best_at)
  pub first : Option Stop
  pub stop : slice_index s.words stop_at ≡ word_of first
  pub tellable : (x : Stop) → first ≡ Some x → IsTellable x
  pub told : (x : Stop) → first ≡ Some x → TellsStop s.views x
  pub each : (j : ℕ) (v : Told) → get_elem? s.views j ≡ some v → FitsControl seats (slice_index s.words best_at) first v

-- the view of the first seat, which has all parts and gives them to the others
abbrev pub teller : ℕ → ℕ → Told
teller seats parts = record (new_told seats) { parts = parts }

-- the view after one part was given away, and the view of the seat that got it
abbrev pub gave_one : Told → Told
gave_one v = teller v.seats (v.parts - 1)

abbrev pub got_one : Told → Told
got_one v = new_told v.seats

abbrev pub spent_told : Told
spent_told = teller 0 0

-- What each step tells.
module _ {S : Type 0} (st : Step S) (m : Me S Told) (found : ℕ) (w : Me S Told) where
  abbrev pub opened_more : Type 0
  opened_more = w ≡ (with_opened m.0 st.first, m.1)

  abbrev pub closed_one : Type 0
  closed_one = (w ≡ (with_closed m.0, m.1)) × IsLeftOpen w.0 ((found + (2 ^ 64 - 1)) % 2 ^ 64)

  abbrev pub saw_open : Type 0
  saw_open = (w ≡ (with_load m.0 found, m.1)) × IsLeftOpen m.0 found

  abbrev pub saw_best : Type 0
  saw_best = (w.1 ≡ m.1) × IsRead m.0 (cost_in found) w.0 × (found ≤ cost_limit)

  abbrev pub told_cost : Type 0
  told_cost = w ≡ (with_cost m.0 (cost_limit - st.first), m.1)

  abbrev pub set_stop : Type 0
  set_stop = (stop : Stop) → st.second ≡ stop_word stop → (w.1 ≡ m.1) × IsStopSet m.0 stop w.0

  abbrev pub saw_stop : Type 0
  saw_stop = (w.1 ≡ m.1) × IsStopRead m.0 (stop_in found) w.0 × (found % 4 ≡ 2 → found / 4 < 2 ^ 32)

  abbrev pub learned : Type 0
  learned = (w ≡ m) × KnowsControl m.0
