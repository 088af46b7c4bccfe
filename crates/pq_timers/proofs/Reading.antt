-- A step that changes no word keeps the rule: loads, and exchanges that find another state.
use Rattle.std.proofs.Common.{◌≡◌, ◌≢◌, ℕ, ◌+◌, ◌<◌, List, map, get_or, set, sym, refl, ap, ◌∙◌, subst, arith}
use Rattle.std.specs.Prelude.{Contains, None}
use Rattle.std.proofs.lemmas.List.{set-get_or}
use mathlib.Core.Option.{some, none}
use lib.ListN.{get_elem?}
use Rattle.atomic_table.specs.Table.{State, Me, step, keeps, stepped, Allows}
use Rattle.pq_numbers.specs.Draws.{times_of}
use Rattle.pq_numbers.proofs.Sums.{sum_kept, one-le-sum, each_set}
use Rattle.pq_numbers.proofs.Counts.{times-contains}
use Rattle.pq_numbers.proofs.Tables as tables
use Rattle.pq_timers.specs.declared.ticket.Ticket.{Ticket}
use Rattle.pq_timers.specs.declared.words.kept.TimerLimits.{TimerLimits}
use Rattle.pq_timers.specs.declared.words.kept.TimerView.{TimerView}
use Rattle.pq_timers.specs.Words.{number_of, fired_number, times, with_moment, with_state}
use Rattle.pq_timers.specs.WordRules.{timer_kind, arm_draw, is_set, state_at, moment_at, armed_by, refused_by, cancelled_by, fired_by, IsMeant, FitsTimers, IsTimers, with_kept, saw_moment, saw_state, learned}
use Rattle.pq_timers.proofs.Known.{knows}
use Rattle.pq_timers.proofs.Later.{fits_told}

module _ {S : Type 0} (limits : TimerLimits) where
  -- A step that leaves the words as they were, and what the view counts
  pub reads : (s : State S TimerView) (h : IsTimers limits s) (i id : ℕ) (v w : TimerView) (c : List (ℕ × S)) → get_elem? s.views id ≡ some v
      → w.kept.parts ≡ v.kept.parts → w.kept.arms ≡ v.kept.arms → w.kept.armed ≡ v.kept.armed → w.kept.refused ≡ v.kept.refused → w.kept.cancelled ≡ v.kept.cancelled → w.kept.fired ≡ v.kept.fired
      → FitsTimers limits (λ j. get_or s.words j 0) h.moment_of w → IsTimers limits (stepped s i (get_or s.words i 0) id c w keeps)
  reads s h i id v w c at parts arms armed refused cancelled fired fits =
      let words : s.words ≡ set s.words i (get_or s.words i 0) = sym (set-get_or s.words i 0) in
      subst (λ (ws : List ℕ). IsTimers limits (record { words = ws; homes = s.homes; views = set s.views id w })) words (record {
        few = h.few;
        few_timers = h.few_timers;
        wide = h.wide;
        numbers = tables.kept timer_kind limits.seats (get_or s.words 0 0) s.views h.numbers id v at w parts (ap (map arm_draw) arms);
        armed = λ y. sum_kept (armed_by y) s.views id v w at (ap (times y) armed) ∙ h.armed y;
        refused = λ y. sum_kept (refused_by y) s.views id v w at (ap (times y) refused) ∙ h.refused y;
        cancelled = λ y. sum_kept (cancelled_by y) s.views id v w at (ap (times y) cancelled) ∙ h.cancelled y;
        fired = λ y. sum_kept (fired_by y) s.views id v w at (λ i. times_of fired_number y (fired i)) ∙ h.fired y;
        states = h.states;
        moment_of = h.moment_of;
        moments = h.moments;
        set = h.set;
        each = each_set (FitsTimers limits (λ j. get_or s.words j 0) h.moment_of) s.views id w fits h.each;
      })

  pub learns : (slots id : ℕ) (me : Me S TimerView) → 0 < me.0.kept.parts → me.0.arming ≡ None → Allows (IsTimers limits) slots id me 0 (λ n. n) (λ n w. learned (step slots 0 0 0 none) me n w)
  learns slots id me some_part quiet s h hs at fits =
      (me.0, keeps, tt, reads s h 0 id me.0 me.0 me.1 at refl refl refl refl refl refl (h.each id me.0 at), (refl, knows limits s h id me.0 at some_part quiet))

  -- A load of the moment word of a timer
  pub sees_moment : (slots id x : ℕ) (me : Me S TimerView) → 0 < me.0.kept.parts → x < limits.timers → Allows (IsTimers limits) slots id me (moment_at x) (λ n. n) (λ n w. saw_moment (step slots (moment_at x) 0 0 none) me n w)
  sees_moment slots id x me some_part within s h hs at fits =
      let v = me.0 in let f = h.each id v at in let word : ℕ = get_or s.words (moment_at x) 0 in
      let w : TimerView = with_kept v (with_moment v.kept x word) in (
        w,
        keeps,
        tt,
        reads s h (moment_at x) id v w me.1 at refl refl refl refl refl refl (record {
          idle = λ z. absurd (omega arith);
          whole = f.whole;
          few = f.few;
          own = f.own;
          past = f.past;
          refused_own = f.refused_own;
          arms = f.arms;
          armed = f.armed;
          refused = f.refused;
          cancelled = f.cancelled;
          fired = f.fired;
          was_cancelled = f.was_cancelled;
          was_fired = f.was_fired;
          arming = f.arming;
          stored = f.stored;
          set = f.set;
          read = λ ne. let m = h.moments x ne in let is = m.1 in (m.0, omega arith);
        }),
        λ x' is. let e : x ≡ x' = omega arith in (
          (λ i. (with_kept v (with_moment v.kept (e i) word), me.1)),
          λ t c n.
              let a = times-contains number_of v.kept.armed t c in
              let b = one-le-sum (armed_by t.number) s.views id v at in let d = h.armed t.number in
              let state : get_or s.words (state_at t.number) 0 ≢ 0 = λ z. let z' = ap is_set z in omega arith in
              let moment = h.set t.number state in let mine = (f.armed t c).1 in
              let same : get_or s.words (moment_at t.number) 0 ≡ word = ap (λ (y : ℕ). get_or s.words (moment_at y) 0) (n ∙ sym e) in omega arith,
        ),
      )

  -- what a step leaves that found this state, which it did not change
  pub told : (s : State S TimerView) (h : IsTimers limits s) (x n id : ℕ) (v : TimerView) (were were_fired : List Ticket) (c : List (ℕ × S)) → get_elem? s.views id ≡ some v → 0 < v.kept.parts → get_or s.words (state_at x) 0 ≡ n
      → ((t : Ticket) → Contains were t → IsMeant (get_or s.words 0 0) h.moment_of t × (get_or s.words (state_at t.number) 0 ≡ 2))
      → ((t : Ticket) → Contains were_fired t → IsMeant (get_or s.words 0 0) h.moment_of t × (get_or s.words (state_at t.number) 0 ≡ 3))
      → IsTimers limits (stepped s (state_at x) n id c (with_kept v (record v.kept { was_cancelled = were; was_fired = were_fired; state_of = x; state_word = n; reads = v.kept.reads + 1 })) keeps)
  told s h x n id v were were_fired c at some_part is cancelled fired =
      let i = state_at x in let w : TimerView = with_kept v (record v.kept { was_cancelled = were; was_fired = were_fired; state_of = x; state_word = n; reads = v.kept.reads + 1 }) in
      subst (λ z. IsTimers limits (stepped s i z id c w keeps)) is (reads s h i id v w c at refl refl refl refl refl refl (fits_told limits v were were_fired x n (v.kept.reads + 1) some_part (λ ne z. ne (sym is ∙ z)) (h.each id v at) cancelled fired))

  -- A load of the state word of a timer
  pub sees_state : (slots id x : ℕ) (me : Me S TimerView) → 0 < me.0.kept.parts → Allows (IsTimers limits) slots id me (state_at x) (λ n. n) (λ n w. saw_state (step slots (state_at x) 0 0 none) me n w)
  sees_state slots id x me some_part s h hs at fits =
      let v = me.0 in let f = h.each id v at in let word : ℕ = get_or s.words (state_at x) 0 in (
        with_kept v (with_state v.kept x word),
        keeps,
        tt,
        told s h x word id v v.kept.was_cancelled v.kept.was_fired me.1 at some_part refl f.was_cancelled f.was_fired,
        λ x' is. let e : x ≡ x' = omega arith in λ i. (with_kept v (with_state v.kept (e i) word), me.1),
      )
