-- What later words and moments keep of those before, and the views that fitted.
use Rattle.std.proofs.Common.{◌≡◌, ◌≢◌, ℕ, suc, ◌<◌, ◌≤◌, List, set, ◌∙◌, arith}
use Rattle.std.specs.Prelude.{Contains}
use Rattle.pq_timers.specs.declared.ticket.Ticket.{Ticket}
use Rattle.pq_timers.specs.declared.words.kept.TimerLimits.{TimerLimits}
use Rattle.pq_timers.specs.declared.words.kept.TimerView.{TimerView}
use Rattle.pq_timers.specs.WordRules.{state_at, moment_at, IsMeant, FitsTimers, with_kept, read_ticket}

-- What later words and moments keep of those before
pub record Later (word word' moment_of moment_of' : ℕ → ℕ) : Type 0 where
  pub made : word 0 ≤ word' 0
  pub same : (x : ℕ) → x < word 0 → moment_of' x ≡ moment_of x
  pub cancelled : (x : ℕ) → word (state_at x) ≡ 2 → word' (state_at x) ≡ 2
  pub fired : (x : ℕ) → word (state_at x) ≡ 3 → word' (state_at x) ≡ 3
  pub set : (x : ℕ) → word (state_at x) ≢ 0 → word' (state_at x) ≢ 0
  pub moments : (x m : ℕ) → word (moment_at x) ≡ suc m → word' (moment_at x) ≡ suc m

pub meant_later : {word word' moment_of moment_of' : ℕ → ℕ} → Later word word' moment_of moment_of' → (t : Ticket) → IsMeant (word 0) moment_of t → IsMeant (word' 0) moment_of' t
meant_later l t m = (let a = l.made in let b = m.0 in omega arith, l.same t.number m.0 ∙ m.1)

-- and so a view that fitted fits on
pub fits_later : (limits : TimerLimits) {word word' moment_of moment_of' : ℕ → ℕ} → Later word word' moment_of moment_of' → (v : TimerView) → FitsTimers limits word moment_of v → FitsTimers limits word' moment_of' v
fits_later limits l v f = record {
  idle = f.idle;
  whole = f.whole;
  few = f.few;
  own = f.own;
  past = f.past;
  refused_own = f.refused_own;
  arms = λ t c. meant_later l t (f.arms t c);
  armed = λ t c. meant_later l t (f.armed t c);
  refused = λ t c. meant_later l t (f.refused t c);
  cancelled = λ t c. meant_later l t (f.cancelled t c);
  fired = λ g c. let a = f.fired g c in (meant_later l g.ticket a.0, a.1);
  was_cancelled = λ t c. let a = f.was_cancelled t c in (meant_later l t a.0, l.cancelled t.number a.1);
  was_fired = λ t c. let a = f.was_fired t c in (meant_later l t a.0, l.fired t.number a.1);
  arming = λ t is. meant_later l t (f.arming t is);
  stored = λ t is stored. l.moments t.number t.moment (f.stored t is stored);
  set = λ ne. l.set v.kept.state_of (f.set ne);
  read = λ ne. meant_later l (read_ticket v.kept) (f.read ne);
}

-- what a seat found by a ticket fits, and the state that it read
pub fits_told : (limits : TimerLimits) {word moment_of : ℕ → ℕ} (v : TimerView) (were were_fired : List Ticket) (number state_word more : ℕ) → 0 < v.kept.parts → (state_word ≢ 0 → word (state_at number) ≢ 0) → FitsTimers limits word moment_of v
    → ((t : Ticket) → Contains were t → IsMeant (word 0) moment_of t × (word (state_at t.number) ≡ 2))
    → ((t : Ticket) → Contains were_fired t → IsMeant (word 0) moment_of t × (word (state_at t.number) ≡ 3))
    → FitsTimers limits word moment_of (with_kept v (record v.kept { was_cancelled = were; was_fired = were_fired; state_of = number; state_word = state_word; reads = more }))
fits_told limits v were were_fired number state_word more some_part set f cancelled fired = record {
  idle = λ z. absurd (omega arith);
  whole = f.whole;
  few = f.few;
  own = f.own;
  past = f.past;
  refused_own = f.refused_own;
  arms = f.arms;
  armed = f.armed;
  refused = f.refused;
  cancelled = f.cancelled;
  fired = f.fired;
  was_cancelled = cancelled;
  was_fired = fired;
  arming = f.arming;
  stored = f.stored;
  set = set;
  read = f.read;
}
