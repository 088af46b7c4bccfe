-- A timer is cancelled where it is armed.
use Rattle.std.proofs.Common.{◌≡◌, ◌≢◌, ℕ, zero, suc, ◌+◌, ◌<◌, ◌≤◌, eqb, List, [], ◌∷◌, ◌++◌, get_or, set, sym, refl, ap, ◌∙◌, subst, ⊎_elim, arith}
use Rattle.std.specs.Prelude.{Contains, None}
use Rattle.std.proofs.lemmas.List.Elements.{Contains-push_cases}
use mathlib.Core.Option.{some, none}
use lib.ListN.{get_elem?}
use Rattle.atomic_table.specs.Table.{State, Me, Act, Valid, carried_after, step, keeps, stepped, Allows}
use prog.Atomic.{either}
use Rattle.pq_numbers.proofs.Sums.{here}
use Rattle.pq_numbers.proofs.Counts.{one_if, same_one, other_none, times-push}
use Rattle.pq_timers.specs.declared.ticket.Ticket.{Ticket}
use Rattle.pq_timers.specs.declared.words.kept.TimerLimits.{TimerLimits}
use Rattle.pq_timers.specs.declared.words.kept.TimerView.{TimerView}
use Rattle.pq_timers.specs.Words.{number_of, HasArmed}
use Rattle.pq_timers.specs.WordRules.{is_set, state_at, cancelled_by, IsMeant, FitsTimers, IsTimers, with_kept, read_ticket, cancelling, tried_cancel}
use Rattle.pq_timers.proofs.Known.{armed_state, knows}
use Rattle.pq_timers.proofs.Later.{meant_later, fits_later}
use Rattle.pq_timers.proofs.Reading.{told}
use Rattle.pq_timers.proofs.Moving.{moves}

module _ {S : Type 0} (limits : TimerLimits) where
  module _ (s : State S TimerView) (h : IsTimers limits s) (slots id x : ℕ) (me : Me S TimerView) (at : get_elem? s.views id ≡ some me.0) (some_part : 0 < me.0.kept.parts)
      (quiet : me.0.arming ≡ None) (within : x < limits.timers) (looked : me.0.kept.at ≡ x) (some_moment : me.0.kept.moment_word ≢ 0) where
    f : FitsTimers limits (λ j. get_or s.words j 0) h.moment_of me.0
    f = h.each id me.0 at

    abbrev t : Ticket
    t = read_ticket me.0.kept

    abbrev Cancelled : ℕ → Type 0
    Cancelled n = (u : TimerView) × (a : Act S) × Valid s.homes me.1 a × IsTimers limits (stepped s (state_at x) (either (eqb n 1) 2 n) id me.1 u a)
        × tried_cancel (step slots (state_at x) 1 2 none) me n (u, carried_after me.1 a)

    own_facts : (n : ℕ) → get_or s.words (state_at x) 0 ≡ n → HasArmed me.0.kept t → (n ≢ 0) × (n ≢ 4)
    own_facts n is has = let a = armed_state limits s h id me.0 at t has in let e = ap (λ (z : ℕ). get_or s.words (state_at z) 0) looked in
        (λ z. a.0 (omega arith), λ z. a.1 (omega arith))

    -- the state was another than armed
    missed : (n : ℕ) → get_or s.words (state_at x) 0 ≡ n → n ≤ 4 → either (eqb n 1) 2 n ≡ n → (were were_fired : List Ticket)
        → cancelling me.0.kept t n ≡ record me.0.kept { was_cancelled = were; was_fired = were_fired; state_of = x; state_word = n; reads = me.0.kept.reads + 1 }
        → ((u : Ticket) → Contains were u → IsMeant (get_or s.words 0 0) h.moment_of u × (get_or s.words (state_at u.number) 0 ≡ 2))
        → ((u : Ticket) → Contains were_fired u → IsMeant (get_or s.words 0 0) h.moment_of u × (get_or s.words (state_at u.number) 0 ≡ 3))
        → Cancelled n
    missed n is small stays were were_fired kept cancelled fired =
        let w : TimerView = with_kept me.0 (record me.0.kept { was_cancelled = were; was_fired = were_fired; state_of = x; state_word = n; reads = me.0.kept.reads + 1 }) in
        let now : IsTimers limits (stepped s (state_at x) n id me.1 w keeps) = told limits s h x n id me.0 were were_fired me.1 at some_part is cancelled fired in (
          w,
          keeps,
          tt,
          subst (λ z. IsTimers limits (stepped s (state_at x) z id me.1 w keeps)) (sym stays) now,
          ((λ i. (with_kept me.0 (sym kept i), me.1)), own_facts n is, small, knows limits (stepped s (state_at x) n id me.1 w keeps) now id w (here s.views id me.0 w at) some_part quiet),
        )

    -- the ticket that was read is the timer's
    is_at : {m : ℕ} → get_or s.words (state_at x) 0 ≡ m → get_or s.words (state_at t.number) 0 ≡ m
    is_at is = ap (λ (z : ℕ). get_or s.words (state_at z) 0) looked ∙ is

    won : get_or s.words (state_at x) 0 ≡ 1 → Cancelled 1
    won is =
        let v = me.0 in let w : TimerView = with_kept v (cancelling v.kept t 1) in
        let meant = f.read some_moment in
        let pushed : (y : ℕ) → cancelled_by y w ≡ cancelled_by y v + one_if (eqb v.kept.at y) = λ y. times-push number_of y v.kept.cancelled t in
        let stored = h.set x (λ z. omega arith) in
        let now : IsTimers limits (stepped s (state_at x) 2 id me.1 w keeps) = moves limits s h x 2 id v w me.1 at within (omega arith) (omega arith) (omega arith) stored refl refl
        (let a = ap is_set is in omega arith)
        (omega arith)
        (let a = pushed x in let b = same_one v.kept.at x looked in omega arith)
        (omega arith)
        (λ y ne. (refl, refl, (let a = pushed y in let b = other_none v.kept.at y (λ z. ne (sym z ∙ looked)) in omega arith), refl))
        (λ later new. let g = fits_later limits later v f in record {
          idle = λ z. absurd (omega arith);
          whole = f.whole;
          few = f.few;
          own = f.own;
          past = f.past;
          refused_own = f.refused_own;
          arms = g.arms;
          armed = g.armed;
          refused = g.refused;
          cancelled = λ u c. ⊎_elim (λ had. g.cancelled u had) (λ e. subst (IsMeant (get_or (set s.words (state_at x) 2) 0 0) h.moment_of) e (meant_later later t meant)) (Contains-push_cases v.kept.cancelled t u c);
          fired = g.fired;
          was_cancelled = g.was_cancelled;
          was_fired = g.was_fired;
          arming = g.arming;
          stored = g.stored;
          set = λ ne z. let a = ap (λ (q : ℕ). get_or (set s.words (state_at x) 2) (state_at q) 0) looked in omega arith;
          read = g.read;
        })
        in
        (w, keeps, tt, now, (refl, own_facts 1 is, omega arith, knows limits (stepped s (state_at x) 2 id me.1 w keeps) now id w (here s.views id v w at) some_part quiet))

    at_x : (n : ℕ) → cancelling me.0.kept t n ≡ record (cancelling me.0.kept t n) { state_of = x }
    at_x zero i = record (cancelling me.0.kept t 0) { state_of = looked i }
    at_x (suc zero) i = record (cancelling me.0.kept t 1) { state_of = looked i }
    at_x (suc (suc zero)) i = record (cancelling me.0.kept t 2) { state_of = looked i }
    at_x (suc (suc (suc zero))) i = record (cancelling me.0.kept t 3) { state_of = looked i }
    at_x (suc (suc (suc (suc n)))) i = record (cancelling me.0.kept t (suc (suc (suc (suc n))))) { state_of = looked i }

    cancelled_case : (n : ℕ) → get_or s.words (state_at x) 0 ≡ n → Cancelled n
    cancelled_case zero is = missed 0 is (omega arith) refl me.0.kept.was_cancelled me.0.kept.was_fired (at_x 0) f.was_cancelled f.was_fired
    cancelled_case (suc zero) is = won is
    cancelled_case (suc (suc zero)) is = missed 2 is (omega arith) refl (me.0.kept.was_cancelled ++ t ∷ []) me.0.kept.was_fired (at_x 2)
        (λ u c. ⊎_elim (λ had. f.was_cancelled u had) (λ e. subst (λ (z : Ticket). IsMeant (get_or s.words 0 0) h.moment_of z × (get_or s.words (state_at z.number) 0 ≡ 2)) e (f.read some_moment, is_at is)) (Contains-push_cases me.0.kept.was_cancelled t u c))
        f.was_fired
    cancelled_case (suc (suc (suc zero))) is = missed 3 is (omega arith) refl me.0.kept.was_cancelled (me.0.kept.was_fired ++ t ∷ []) (at_x 3)
        f.was_cancelled
        (λ u c. ⊎_elim (λ had. f.was_fired u had) (λ e. subst (λ (z : Ticket). IsMeant (get_or s.words 0 0) h.moment_of z × (get_or s.words (state_at z.number) 0 ≡ 3)) e (f.read some_moment, is_at is)) (Contains-push_cases me.0.kept.was_fired t u c))
    cancelled_case (suc (suc (suc (suc zero)))) is = missed 4 is (omega arith) refl me.0.kept.was_cancelled me.0.kept.was_fired (at_x 4) f.was_cancelled f.was_fired
    cancelled_case (suc (suc (suc (suc (suc n))))) is = let a = h.states x in absurd (omega arith)

  -- A timer is cancelled where it is armed, by the ticket that the seat read the moment word of
  pub tries_cancel : (slots id x : ℕ) (me : Me S TimerView) → 0 < me.0.kept.parts → me.0.arming ≡ None → x < limits.timers → me.0.kept.at ≡ x → me.0.kept.moment_word ≢ 0
      → Allows (IsTimers limits) slots id me (state_at x) (λ n. either (eqb n 1) 2 n) (λ n w. tried_cancel (step slots (state_at x) 1 2 none) me n w)
  tries_cancel slots id x me some_part quiet within looked some_moment s h hs at fits =
      cancelled_case s h slots id x me at some_part quiet within looked some_moment (get_or s.words (state_at x) 0) refl
