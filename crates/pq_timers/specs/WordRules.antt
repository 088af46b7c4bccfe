-- The rule of a timers' table, and what each of its steps tells.
-- Word 0, the made word, counts the numbers that were drawn. The timer x has its moment word at 2 * x + 1, which is 0
-- or the moment plus 1, and its state word behind that: 0 none, 1 armed, 2 cancelled, 3 fired, 4 refused.
use Rattle.std.specs.Prelude.{ℕ, zero, suc, ◌≡◌, ◌≢◌, ◌+◌, ◌-◌, ◌*◌, ◌^◌, ◌<◌, ◌≤◌}
use Rattle.std.specs.Prelude.{◌==◌, nat_lt, if◌then◌else◌, true, false}
use Rattle.std.specs.Prelude.{List, [], length, map, Contains, slice_index, Option, Some, None}
use mathlib.Core.Option.{some}
use lib.ListN.{get_elem?}
use Rattle.atomic_table.specs.Table.{State, Me, Step}
use Rattle.pq_model.specs.Limits.{max_seats}
use Rattle.pq_numbers.specs.declared.draws.Draw.{Draw}
use Rattle.pq_numbers.specs.Draws.{draw_of, times_of}
use Rattle.pq_numbers.specs.Tables.{Kind, AreDrawn, AreTold}
use Rattle.pq_timers.specs.declared.ticket.Ticket.{Ticket}
use Rattle.pq_timers.specs.declared.words.kept.Firing.{Firing}
use Rattle.pq_timers.specs.declared.words.kept.Kept.{Kept}
use Rattle.pq_timers.specs.declared.words.kept.TimerLimits.{TimerLimits}
use Rattle.pq_timers.specs.declared.words.kept.TimerView.{TimerView}
use Rattle.pq_timers.specs.Limits.{max_timers, use_limit}
use Rattle.pq_timers.specs.Words.{armed_state, cancelled_state, fired_state, refused_state, ticket, fired_number, times}
use Rattle.pq_timers.specs.Words.{new_kept, with_arm, with_armed, with_refused, with_cancelled, with_fired}
use Rattle.pq_timers.specs.Words.{with_was_cancelled, with_was_fired, with_moment, with_state}
use Rattle.pq_timers.specs.Words.{kept_joined, firing, HasArmed}
use Rattle.pq_timers.specs.Words.{KnowsTimers}

abbrev pub moment_at : ℕ → ℕ
moment_at x = 2 * x + 1

abbrev pub state_at : ℕ → ℕ
state_at x = 2 * x + 1 + 1

-- 1 where the state is that of a timer that was armed, whatever came of it
abbrev pub is_set : ℕ → ℕ
is_set zero = 0
is_set (suc n) = 1

-- 1 where the state is this one
abbrev pub is_in : ℕ → ℕ → ℕ
is_in state n = if n == state then 1 else 0

-- each arm draws one number
abbrev pub arm_draw : Ticket → Draw
arm_draw t = draw_of t.number 1 true

abbrev pub timer_kind : Kind TimerView
timer_kind = record { parts = λ v. v.kept.parts; draws = λ v. map arm_draw v.kept.arms }

abbrev pub times_in : ℕ → Option Ticket → ℕ
times_in x None = 0
times_in x (Some t) = if t.number == x then 1 else 0

abbrev pub arming_by : ℕ → TimerView → ℕ
arming_by x v = times_in x v.arming

abbrev pub armed_by : ℕ → TimerView → ℕ
armed_by x v = times x v.kept.armed

abbrev pub refused_by : ℕ → TimerView → ℕ
refused_by x v = times x v.kept.refused

abbrev pub cancelled_by : ℕ → TimerView → ℕ
cancelled_by x v = times x v.kept.cancelled

abbrev pub fired_by : ℕ → TimerView → ℕ
fired_by x v = times_of fired_number x v.kept.fired

-- the number was drawn, and the moment is its timer's
abbrev pub IsMeant : ℕ → (ℕ → ℕ) → Ticket → Type 0
IsMeant made moment_of t = (t.number < made) × (moment_of t.number ≡ t.moment)

abbrev pub AreMeant : ℕ → (ℕ → ℕ) → List Ticket → Type 0
AreMeant made moment_of ts = (t : Ticket) → Contains ts t → IsMeant made moment_of t

-- the view of a seat that was joined into another, and of one that gave all its parts away
pub record IsIdle (v : TimerView) : Type 0 where
  pub armed : v.kept.armed ≡ []
  pub refused : v.kept.refused ≡ []
  pub cancelled : v.kept.cancelled ≡ []
  pub fired : v.kept.fired ≡ []
  pub arming : v.arming ≡ None

-- What the rule says of one view, by the words and the moments of the timers.
pub record FitsTimers (limits : TimerLimits) (word : ℕ → ℕ) (moment_of : ℕ → ℕ) (v : TimerView) : Type 0 where
  pub idle : v.kept.parts ≡ 0 → IsIdle v
  pub whole : 0 < v.kept.parts → v.kept.limits ≡ limits
  pub few : length v.kept.arms ≤ use_limit * v.kept.parts
  -- each number of a timer that the seat drew is one that it armed, or is about to arm
  pub own : (x : ℕ) → x < limits.timers → armed_by x v + arming_by x v ≡ times x v.kept.arms
  pub past : (x : ℕ) → limits.timers ≤ x → armed_by x v + arming_by x v ≡ 0
  pub refused_own : (x : ℕ) → refused_by x v ≤ armed_by x v
  pub arms : AreMeant (word 0) moment_of v.kept.arms
  pub armed : AreMeant (word 0) moment_of v.kept.armed
  pub refused : AreMeant (word 0) moment_of v.kept.refused
  pub cancelled : AreMeant (word 0) moment_of v.kept.cancelled
  pub fired : (f : Firing) → Contains v.kept.fired f → IsMeant (word 0) moment_of f.ticket × (f.ticket.moment ≤ f.now)
  pub was_cancelled : (t : Ticket) → Contains v.kept.was_cancelled t
      → IsMeant (word 0) moment_of t × (word (state_at t.number) ≡ cancelled_state)
  pub was_fired : (t : Ticket) → Contains v.kept.was_fired t
      → IsMeant (word 0) moment_of t × (word (state_at t.number) ≡ fired_state)
  pub arming : (t : Ticket) → v.arming ≡ Some t → IsMeant (word 0) moment_of t
  pub stored : (t : Ticket) → v.arming ≡ Some t → v.stored ≡ true → word (moment_at t.number) ≡ suc t.moment
  pub set : v.kept.state_word ≢ 0 → word (state_at v.kept.state_of) ≢ 0
  pub read : v.kept.moment_word ≢ 0 → IsMeant (word 0) moment_of (ticket v.kept.at (v.kept.moment_word - 1))

-- The seats draw each number below the made word once. Each timer's state word tells how often it was armed, refused,
-- cancelled and fired. Its moment word is 0 or that of its moment, and the latter where it was armed.
pub record IsTimers {S : Type 0} (limits : TimerLimits) (s : State S TimerView) : Type 0 where
  pub few : limits.seats ≤ max_seats
  pub few_timers : limits.timers ≤ max_timers
  pub wide : length s.words ≡ 2 * limits.timers + 1
  pub numbers : AreDrawn timer_kind limits.seats (slice_index s.words 0) s.views
  pub armed : AreTold armed_by is_set state_at s.words s.views
  pub refused : AreTold refused_by (is_in refused_state) state_at s.words s.views
  pub cancelled : AreTold cancelled_by (is_in cancelled_state) state_at s.words s.views
  pub fired : AreTold fired_by (is_in fired_state) state_at s.words s.views
  pub states : (x : ℕ) → slice_index s.words (state_at x) ≤ refused_state
  pub moment_of : ℕ → ℕ
  pub moments : (x : ℕ) → slice_index s.words (moment_at x) ≢ 0
      → (x < slice_index s.words 0) × (slice_index s.words (moment_at x) ≡ suc (moment_of x))
  pub set : (x : ℕ) → slice_index s.words (state_at x) ≢ 0 → slice_index s.words (moment_at x) ≡ suc (moment_of x)
  pub each : (j : ℕ) (v : TimerView) → get_elem? s.views j ≡ some v
      → FitsTimers limits (λ i. slice_index s.words i) moment_of v

-- each number that the seat armed is one of a timer
abbrev pub AreTimers : Kept → Type 0
AreTimers k = (t : Ticket) → Contains k.armed t → t.number < k.limits.timers

abbrev pub timer_view : Kept → TimerView
timer_view kept = record { kept = kept; arming = None; stored = false }

-- the view of the first seat, which has all parts and gives them to the others
abbrev pub giver : TimerLimits → ℕ → TimerView
giver limits parts = timer_view (new_kept limits parts)

abbrev pub first_giver : TimerLimits → TimerView
first_giver limits = giver limits limits.seats

-- the view after one part was given away, and the view of the seat that got it
abbrev pub dealt_one : TimerView → TimerView
dealt_one v = giver v.kept.limits (v.kept.parts - 1)

abbrev pub one_part : TimerView → TimerView
one_part v = giver v.kept.limits 1

abbrev pub views_joined : TimerView → TimerView → TimerView
views_joined v w = record v { kept = kept_joined v.kept w.kept }

abbrev pub spent_view : TimerView
spent_view = giver (record { seats = 0; timers = 0 }) 0

abbrev pub with_kept : TimerView → Kept → TimerView
with_kept v kept = record v { kept = kept }

-- the number found was drawn for this moment, and is the next timer to arm where it is one of a timer
abbrev pub drawn_view : TimerView → ℕ → ℕ → TimerView
drawn_view v number moment = record {
  kept = with_arm v.kept (ticket number moment);
  arming = if nat_lt number v.kept.limits.timers then Some (ticket number moment) else None;
  stored = false;
}

abbrev pub armed_view : TimerView → Ticket → TimerView
armed_view v t = timer_view (with_armed v.kept t)

-- the ticket that a seat knows by the moment word that it read
abbrev pub read_ticket : Kept → Ticket
read_ticket k = ticket k.at (k.moment_word - 1)

-- what a seat keeps that found this state where it tried to cancel
abbrev pub cancelling : Kept → Ticket → ℕ → Kept
cancelling k t zero = with_state k t.number 0
cancelling k t (suc zero) = with_cancelled (with_state k t.number 1) t
cancelling k t (suc (suc zero)) = with_was_cancelled (with_state k t.number 2) t
cancelling k t (suc (suc (suc zero))) = with_was_fired (with_state k t.number 3) t
cancelling k t (suc (suc (suc (suc n)))) = with_state k t.number (n + 4)

-- What each step tells.
module _ {S : Type 0} (st : Step S) (m : Me S TimerView) (found : ℕ) (w : Me S TimerView) where
  abbrev pub drew : ℕ → Type 0
  drew moment = (w ≡ (drawn_view m.0 found moment, m.1)) × (found < 2 ^ 32)
      × (m.0.kept.limits.timers ≤ found → KnowsTimers w.0.kept)

  abbrev pub stored_moment : Type 0
  stored_moment = w ≡ (record m.0 { stored = true }, m.1)

  abbrev pub set_armed : Type 0
  set_armed = (t : Ticket) → m.0.arming ≡ Some t → (w ≡ (armed_view m.0 t, m.1)) × KnowsTimers w.0.kept

  abbrev pub saw_moment : Type 0
  saw_moment = (x : ℕ) → st.word ≡ moment_at x → (w ≡ (with_kept m.0 (with_moment m.0.kept x found), m.1))
      × ((t : Ticket) → Contains m.0.kept.armed t → t.number ≡ x → found ≡ t.moment + 1)

  abbrev pub tried_cancel : Type 0
  tried_cancel = (w ≡ (with_kept m.0 (cancelling m.0.kept (read_ticket m.0.kept) found), m.1))
      × (HasArmed m.0.kept (read_ticket m.0.kept) → (found ≢ 0) × (found ≢ refused_state)) × (found ≤ refused_state)
      × KnowsTimers w.0.kept

  -- the state was armed and is refused, or is what a cancel made of it
  abbrev pub tried_refuse : Type 0
  tried_refuse = (t : Ticket) → Contains m.0.kept.armed t → st.word ≡ state_at t.number →
      (found ≡ armed_state → w ≡ (with_kept m.0 (with_refused (with_state m.0.kept t.number found) t), m.1))
      × (found ≢ armed_state → w ≡ (with_kept m.0 (with_state m.0.kept t.number found), m.1))
      × (HasArmed m.0.kept t → (found ≢ 0) × (found ≢ refused_state)) × KnowsTimers w.0.kept

  abbrev pub saw_state : Type 0
  saw_state = (x : ℕ) → st.word ≡ state_at x → w ≡ (with_kept m.0 (with_state m.0.kept x found), m.1)

  -- the state was armed and is fired at this moment, or is what became of it
  abbrev pub tried_fire : ℕ → Type 0
  tried_fire at = let t = read_ticket m.0.kept in
      (found ≡ armed_state
      → w ≡ (with_kept m.0 (with_fired (with_state m.0.kept t.number found) (firing t at)), m.1))
      × (found ≢ armed_state → w ≡ (with_kept m.0 (with_state m.0.kept t.number found), m.1))
      × (found ≢ 0) × (found ≤ refused_state) × KnowsTimers w.0.kept

  abbrev pub learned : Type 0
  learned = (w ≡ m) × KnowsTimers m.0.kept
