-- What a worker has at one moment, what is counted of it, how it goes on, and what workers are together.
use Rattle.std.specs.Prelude.{ℕ, ◌≡◌, ◌+◌, ◌<◌, ◌≤◌, List, [], length, Contains, Option, None}
use Rattle.pq_words.specs.declared.entries.Entry.{Entry}
use Rattle.pq_model.specs.declared.marks.Act.{Act}
use Rattle.pq_model.specs.declared.marks.Act.TheVariants.{Insert}
use Rattle.pq_model.specs.declared.marks.Reply.{Reply}
use Rattle.pq_model.specs.declared.marks.Reply.TheVariants.{Full}
use Rattle.pq_model.specs.declared.passes.Lane.{Lane}
use Rattle.pq_model.specs.declared.passes.Known.{Known}
use Rattle.pq_model.specs.Passes.{call, lanes, numbers, fresh, Knows}
use Rattle.bb_problem.specs.Meaning.{Meaning}
use Rattle.pq_numbers.specs.declared.draws.Draw.{Draw}
use Rattle.bb_shared.specs.declared.store.stored.Numbered.{Numbered}
use Rattle.bb_shared.specs.declared.store.stored.Stored.{Stored}
use Rattle.bb_shared.specs.declared.control.told.Told.{Told}
use Rattle.bb_shared.specs.declared.control.stop.Stop.{Stop}
use Rattle.bb_shared.specs.declared.control.stop.Stop.TheVariants as stops
use Rattle.bb_shared.specs.Stores.{KnowsStore, new_stored}
use Rattle.bb_shared.specs.Controls.{new_told}
use Rattle.bb_pool.specs.declared.found.Found.{Found}
use Rattle.bb_pool.specs.declared.workers.shared.Worker.{Worker}
use Rattle.bb_pool.specs.declared.workers.shared.Shared.{Shared}
use Rattle.bb_pool.specs.Limits.{idle_calls}
use Rattle.bb_pool.specs.Room.{all_inserts}
use Rattle.bb_pool.specs.Working.{HasMade, IsRooted, IsWorking}
use Rattle.bb_pool.specs.Origins.{HasOrigins, HasOriginsFrom}

-- What a worker has at one moment: what its pass keeps, what its seats keep, the best plan that it found, and how many
-- calls it has counted.
pub record Doing (N L : Type 0) : Type 0 where
  pub known : Known
  pub stored : Stored N
  pub told : Told
  pub found : Option (Found L)
  pub made : ℕ

abbrev pub doing : {A N L : Type 0} → (A → Known) → Worker A N L → Doing N L
doing known w =
    record { known = known w.pass; stored = w.seat.kept; told = w.control.kept; found = w.found; made = w.made }

-- the worker's pass is one of the queue, and its seats are seats of the store and of the control
abbrev pub IsOneOf : {Q A N L : Type 0} → (Q → A → Type 0) → Shared Q N → Worker A N L → Type 0
IsOneOf belongs shared w =
    belongs shared.queue w.pass × (w.seat.store ≡ shared.store) × (w.control.control ≡ shared.control)

abbrev pub AtWork : {N L : Type 0} → Meaning N L → Doing N L → Type 0
AtWork m w = IsWorking m w.known w.stored w.told w.found

-- The calls of a worker's pass are counted. At most so many of them found nothing; for each other one a node was taken
-- or put. No more entries were inserted than nodes put, and no more turns were ended than begun.
pub record IsCounted {N L : Type 0} (nodes idle : ℕ) (w : Doing N L) : Type 0 where
  pub knows : KnowsStore nodes w.stored
  pub made_is : w.made ≡ length w.known.calls
  pub few : w.made ≤ idle + length w.stored.takes + length w.stored.puts
  pub inserts : all_inserts w.known ≤ length w.stored.puts
  pub turns : w.told.closed ≤ w.told.opened

-- few calls found nothing, so that the pass may make another
abbrev pub CanGoOn : {N L : Type 0} → ℕ → Doing N L → Type 0
CanGoOn nodes w = (idle : ℕ) × (idle ≤ idle_calls + 1) × IsCounted nodes idle w

-- A worker has gone on from the first of these moments to the second: it is the same, and what it did stays done. It
-- has ended no more turns since than it has begun.
pub record Follows {N L : Type 0} (v w : Doing N L) : Type 0 where
  pub numbers_are : numbers w.known ≡ numbers v.known
  pub calls : (act : Act) (reply : Reply) → HasMade v.known act reply → HasMade w.known act reply
  pub puts : (p : Numbered N) → Contains v.stored.puts p → Contains w.stored.puts p
  pub seats : w.stored.seats ≡ v.stored.seats
  pub parts : w.stored.parts ≡ v.stored.parts
  pub control_seats : w.told.seats ≡ v.told.seats
  pub control_parts : w.told.parts ≡ v.told.parts
  pub stops : w.told.stops ≡ v.told.stops
  pub turns : v.told.opened + w.told.closed ≤ w.told.opened + v.told.closed

-- So many calls since have found nothing.
pub record GoesOn {N L : Type 0} (nodes more : ℕ) (v w : Doing N L) : Type 0 where
  pub follows : Follows v w
  pub counted : (idle after : ℕ) → after ≡ idle + more → IsCounted nodes idle v → IsCounted nodes after w

-- What a stop rests on: more nodes than the limit were asked for by a draw, or an insert at this place was answered
-- Full.
abbrev pub IsCause : ℕ → Known → List Draw → Stop → Type 0
IsCause nodes k draws (stops.NodeLimit asked) =
    (nodes < asked) × (d : Draw) × Contains draws d × (d.first < asked) × (d.first + d.count ≡ asked)
IsCause nodes k draws (stops.Full place) =
    (e : Entry) × (l : Lane) × Contains (lanes k) l × Contains l.calls (call place (Insert e) Full)
IsCause nodes k draws stops.NoMemory = Unit {0}

-- These are the workers of these numbers, of so many in all, joined into one.
pub record IsNumbered {N L : Type 0} (seats from to : ℕ) (w : Doing N L) : Type 0 where
  pub each : (n : ℕ) → from ≤ n → n ≤ to → Contains (numbers w.known) n
  pub only : (n : ℕ) → Contains (numbers w.known) n → (from ≤ n) × (n ≤ to)
  pub seats_are : w.stored.seats ≡ seats
  pub parts : w.stored.parts + from ≡ to + 1
  pub control_seats : w.told.seats ≡ seats
  pub control_parts : w.told.parts + from ≡ to + 1

-- One worker, of so many, that has done nothing.
pub record IsNew {N L : Type 0} (seats n : ℕ) (w : Doing N L) : Type 0 where
  pub known_is : w.known ≡ fresh n
  pub stored_is : w.stored ≡ new_stored seats
  pub told_is : w.told ≡ new_told seats
  pub none : w.found ≡ None
  pub made_is : w.made ≡ 0

-- One worker, which has set no stop, and has drawn no number.
pub record HasBegun {N L : Type 0} (m : Meaning N L) (nodes seats capacity n : ℕ) (w : Doing N L) : Type 0 where
  pub numbered : IsNumbered seats n n w
  pub counted : IsCounted nodes idle_calls w
  pub none : w.told.stops ≡ []
  pub working : AtWork m w
  pub knows : Knows seats capacity w.known
  pub traced : HasOrigins m None [] w.stored

-- The workers of these numbers, joined into one. Where none of them has set a stop, they have accounted for all that
-- they removed, and the first of all has put and inserted the root. Each number that they drew is traced. Where one of
-- them has set a stop, they know the first of all stops.
pub record IsTogether {N L : Type 0} (m : Meaning N L) (nodes seats capacity idle from to : ℕ)
    (w : Doing N L) : Type 0 where
  pub numbered : IsNumbered seats from to w
  pub counted : IsCounted nodes idle w
  pub causes : (stop : Stop) → Contains w.told.stops stop → IsCause nodes w.known w.stored.draws stop
  pub working : w.told.stops ≡ [] → AtWork m w
  pub knows : Knows seats capacity w.known
  pub rooted : from ≡ 1 → w.told.stops ≡ [] → IsRooted m w.known w.stored.puts
  pub traced : HasOriginsFrom m from w.stored
  pub first : w.told.first ≡ None → w.told.stops ≡ []
