-- What a seat of a timers' table keeps, and what its steps make of it.
use Rattle.std.specs.Prelude.{ℕ, ◌≡◌, ◌≢◌, ◌⊎◌, ◌+◌, ◌<◌, ◌≤◌}
use Rattle.std.specs.Prelude.{◌==◌, nat_lt, if◌then◌else◌, List, [], ◌∷◌, ◌++◌, length, Contains}
use Rattle.atomic_table.specs.Seated.{TableId}
use Rattle.pq_numbers.specs.Draws.{times_of}
use Rattle.pq_timers.specs.declared.ticket.Ticket.{Ticket}
use Rattle.pq_timers.specs.declared.answers.Cancel.{Cancel}
use Rattle.pq_timers.specs.declared.answers.Cancel.TheVariants.{Done, WasCancelled, WasFired, Unknown}
use Rattle.pq_timers.specs.declared.words.kept.Firing.{Firing}
use Rattle.pq_timers.specs.declared.words.kept.Kept.{Kept}
use Rattle.pq_timers.specs.declared.words.kept.TimerLimits.{TimerLimits}

-- what the state word of a timer is
abbrev pub none_state : ℕ
none_state = 0

abbrev pub armed_state : ℕ
armed_state = 1

abbrev pub cancelled_state : ℕ
cancelled_state = 2

abbrev pub fired_state : ℕ
fired_state = 3

abbrev pub refused_state : ℕ
refused_state = 4

-- what contracts see of a table: which it is, and what it was opened for
pub record TimersSeen : Type 0 where
  pub table : TableId
  pub limits : TimerLimits

-- what contracts see of a seat: its table, and what it keeps
pub record TimerSeated : Type 0 where
  pub table : TableId
  pub kept : Kept

-- the seat is one of the table
abbrev pub IsSeatOf : TimersSeen → TimerSeated → Type 0
IsSeatOf timers seat = (seat.table ≡ timers.table) × (seat.kept.limits ≡ timers.limits)

abbrev pub ticket : ℕ → ℕ → Ticket
ticket number moment = record { number = number; moment = moment }

abbrev pub number_of : Ticket → ℕ
number_of t = t.number

abbrev pub fired_number : Firing → ℕ
fired_number f = f.ticket.number

-- how many of the tickets have this number
abbrev pub times : ℕ → List Ticket → ℕ
times = times_of number_of

-- what a seat keeps that has done nothing, so many of all seats
abbrev pub new_kept : TimerLimits → ℕ → Kept
new_kept limits parts = record {
  limits = limits;
  parts = parts;
  arms = [];
  armed = [];
  refused = [];
  cancelled = [];
  fired = [];
  was_cancelled = [];
  was_fired = [];
  at = 0;
  moment_word = 0;
  state_of = 0;
  state_word = 0;
  reads = 0;
}

-- the new seats of a table
abbrev pub new_timer_seat : TimersSeen → TimerSeated
new_timer_seat timers = record { table = timers.table; kept = new_kept timers.limits 1 }

abbrev pub with_arm : Kept → Ticket → Kept
with_arm k t = record k { arms = k.arms ++ t ∷ [] }

abbrev pub with_armed : Kept → Ticket → Kept
with_armed k t = record k { armed = k.armed ++ t ∷ [] }

abbrev pub with_refused : Kept → Ticket → Kept
with_refused k t = record k { refused = k.refused ++ t ∷ [] }

abbrev pub with_cancelled : Kept → Ticket → Kept
with_cancelled k t = record k { cancelled = k.cancelled ++ t ∷ [] }

abbrev pub with_fired : Kept → Firing → Kept
with_fired k f = record k { fired = k.fired ++ f ∷ [] }

abbrev pub with_was_cancelled : Kept → Ticket → Kept
with_was_cancelled k t = record k { was_cancelled = k.was_cancelled ++ t ∷ [] }

abbrev pub with_was_fired : Kept → Ticket → Kept
with_was_fired k t = record k { was_fired = k.was_fired ++ t ∷ [] }

-- the seat read the moment word of this number, or its state word
abbrev pub with_moment : Kept → ℕ → ℕ → Kept
with_moment k number word = record k { at = number; moment_word = word; reads = k.reads + 1 }

abbrev pub with_state : Kept → ℕ → ℕ → Kept
with_state k number word = record k { state_of = number; state_word = word; reads = k.reads + 1 }

-- what two seats did, of which the second is gone
abbrev pub kept_joined : Kept → Kept → Kept
kept_joined k l = record k {
  parts = k.parts + l.parts;
  arms = k.arms ++ l.arms;
  armed = k.armed ++ l.armed;
  refused = k.refused ++ l.refused;
  cancelled = k.cancelled ++ l.cancelled;
  fired = k.fired ++ l.fired;
  was_cancelled = k.was_cancelled ++ l.was_cancelled;
  was_fired = k.was_fired ++ l.was_fired;
}

-- the answer of a cancel by the state that it found
abbrev pub answer_of : ℕ → Cancel
answer_of state = if state == armed_state then Done
    else if state == cancelled_state then WasCancelled
    else if state == fired_state then WasFired
    else Unknown

-- the ticket's number is one of a timer, and the moment word that was read is that of its moment
abbrev pub looked : Kept → Ticket → Kept
looked k t = with_moment k t.number (t.moment + 1)

-- The ticket is one of no timer; or its moment is another than the timer's, by the word that was read; or the timer is
-- not armed yet or was refused, by the state that was read.
abbrev pub IsUnknown : Kept → Ticket → Kept → Type 0
IsUnknown before t now = ((before.limits.timers ≤ t.number) × (now ≡ before))
    ⊎ ((word : ℕ) × (word ≢ t.moment + 1) × (now ≡ with_moment before t.number word))
    ⊎ ((word : ℕ) × ((word ≡ none_state) ⊎ (word ≡ refused_state)) × (now ≡ with_state (looked before t) t.number word))

-- What a cancel answers is what the words were that it read; it is Done where its exchange found the timer armed.
abbrev pub IsCancel : Kept → Ticket → Cancel → Kept → Type 0
IsCancel before t Done now = (t.number < before.limits.timers)
    × (now ≡ with_cancelled (with_state (looked before t) t.number armed_state) t)
IsCancel before t WasCancelled now = (t.number < before.limits.timers)
    × (now ≡ with_was_cancelled (with_state (looked before t) t.number cancelled_state) t)
IsCancel before t WasFired now = (t.number < before.limits.timers)
    × (now ≡ with_was_fired (with_state (looked before t) t.number fired_state) t)
IsCancel before t Unknown now = IsUnknown before t now

-- the timer was not armed any more, by the state that was read
abbrev pub IsNotRefused : Kept → Ticket → Kept → Type 0
IsNotRefused before t now = (word : ℕ) × (word ≢ armed_state) × (now ≡ with_state before t.number word)

abbrev pub firing : Ticket → ℕ → Firing
firing t now = record { ticket = t; now = now }

-- the seat has read the state of this number until it was not none
abbrev pub HasWaited : Kept → ℕ → Kept → Type 0
HasWaited before number k = (word reads : ℕ) × (word ≢ none_state) × (before.reads < reads)
    × (k ≡ record before { state_of = number; state_word = word; reads = reads })

-- The number is none of a timer; or the moment is another than the timer's, by the word that was read; or the timer was
-- refused, cancelled or fired before, by the state that was read.
abbrev pub IsDropped : Kept → Ticket → Kept → Type 0
IsDropped before t now = ((before.limits.timers ≤ t.number) × (now ≡ before))
    ⊎ ((k : Kept) × HasWaited before t.number k
    × (((word : ℕ) × (word ≢ t.moment + 1) × (now ≡ with_moment k t.number word))
    ⊎ ((word : ℕ) × (armed_state < word) × (word ≤ refused_state) × (now ≡ with_state (looked k t) t.number word))))

-- The timer was armed, and is fired by this call alone.
abbrev pub IsFired : Kept → Ticket → ℕ → Kept → Type 0
IsFired before t at now = (t.number < before.limits.timers) × (k : Kept) × HasWaited before t.number k
    × (now ≡ with_fired (with_state (looked k t) t.number armed_state) (firing t at))

-- the seat armed this timer, and did not refuse it
abbrev pub HasArmed : Kept → Ticket → Type 0
HasArmed k t = Contains k.armed t × (Contains k.refused t → ⊥)

-- Once all seats are joined: the arms drew the numbers from 0 on, each once; each timer that was found fired or
-- cancelled by a ticket is one that was fired or cancelled; and none was fired before its moment.
pub record KnowsAll (k : Kept) : Type 0 where
  pub drawn : (x : ℕ) → times x k.arms ≡ (if nat_lt x (length k.arms) then 1 else 0)
  pub was_cancelled : (t : Ticket) → Contains k.was_cancelled t → Contains k.cancelled t
  pub was_fired : (t : Ticket) → Contains k.was_fired t → (f : Firing) × Contains k.fired f × (f.ticket ≡ t)
  -- each timer that ended is one that was armed, at the moment that its arm was asked for
  pub cancelled_from : (t : Ticket) → Contains k.cancelled t → Contains k.arms t
  pub refused_from : (t : Ticket) → Contains k.refused t → Contains k.arms t
  pub fired_from : (f : Firing) → Contains k.fired f → Contains k.arms f.ticket × (f.ticket.moment ≤ f.now)
  -- each timer whose number was drawn was armed
  pub all_armed : (t : Ticket) → Contains k.arms t → t.number < k.limits.timers → Contains k.armed t

-- What a seat knows: it drew each number once at most, and ended each timer once at most. And what all seats know.
pub record KnowsTimers (k : Kept) : Type 0 where
  pub drawn_once : (x : ℕ) → times x k.arms ≤ 1
  pub ended_once : (x : ℕ) → times x k.refused + times x k.cancelled + times_of fired_number x k.fired ≤ 1
  pub whole : k.parts ≡ k.limits.seats → KnowsAll k
