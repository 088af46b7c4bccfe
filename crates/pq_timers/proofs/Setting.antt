-- A timer is armed.
use Rattle.std.proofs.Common.{◌≡◌, ℕ, suc, ◌+◌, ◌<◌, true, eqb, ltb, get_or, set, sym, refl, ap, ◌∙◌, subst, ⊎_elim, arith}
use Rattle.std.specs.Prelude.{Some}
use Rattle.std.proofs.lemmas.List.Elements.{Contains-push_cases}
use mathlib.Core.Option.{some, none}
use lib.ListN.{get_elem?}
use Rattle.atomic_table.specs.Table.{State, Me, step, keeps, stepped, Allows}
use Rattle.pq_numbers.specs.Draws.{times_drawn}
use Rattle.pq_numbers.proofs.Sums.{sum-le_at, here}
use Rattle.pq_numbers.proofs.Counts.{one_if, one_if-le, same_one, other_none, times-push}
use Rattle.pq_timers.specs.declared.ticket.Ticket.{Ticket}
use Rattle.pq_timers.specs.declared.words.kept.TimerLimits.{TimerLimits}
use Rattle.pq_timers.specs.declared.words.kept.TimerView.{TimerView}
use Rattle.pq_timers.specs.Words.{number_of, times}
use Rattle.pq_timers.specs.WordRules.{timer_kind, is_set, state_at, times_in, armed_by, arming_by, IsMeant, IsTimers, armed_view, set_armed}
use Rattle.pq_timers.proofs.Counted.{drawn_times, sum-eq, set_none}
use Rattle.pq_timers.proofs.Known.{knows}
use Rattle.pq_timers.proofs.Later.{fits_later}
use Rattle.pq_timers.proofs.Options.{same_some, none_some}
use Rattle.pq_timers.proofs.Moving.{moves}

module _ {S : Type 0} (limits : TimerLimits) where
  -- The state word of a timer that the seat is about to arm is that of none
  none_word : (s : State S TimerView) (h : IsTimers limits s) (id : ℕ) (v : TimerView) (t : Ticket) → get_elem? s.views id ≡ some v → v.arming ≡ Some t → t.number < limits.timers → get_or s.words (state_at t.number) 0 ≡ 0
  none_word s h id v t at arming within =
      let x = t.number in
      let mine : arming_by x v ≡ 1 = ap (times_in x) arming ∙ same_one x x refl in
      let own = (h.each id v at).own x within in
      let a = sum-le_at (armed_by x) (λ (u : TimerView). times x u.kept.arms) s.views id v at (λ j u there. let o = (h.each j u there).own x within in omega arith) in
      let b = sum-eq (λ (u : TimerView). times_drawn x (timer_kind.draws u)) (λ (u : TimerView). times x u.kept.arms) s.views (λ u. drawn_times x u.kept.arms) in
      let c = h.numbers.drawn x in let d = one_if-le (ltb x (get_or s.words 0 0)) in let e = h.armed x in
      set_none (get_or s.words (state_at x) 0) (omega arith)

  -- The timer is armed, once its moment is stored
  pub sets_armed : (slots id : ℕ) (me : Me S TimerView) (t : Ticket) → 0 < me.0.kept.parts → me.0.arming ≡ Some t → me.0.stored ≡ true → t.number < limits.timers
      → Allows (IsTimers limits) slots id me (state_at t.number) (λ _. 1) (λ n w. set_armed (step slots (state_at t.number) 1 0 none) me n w)
  sets_armed slots id me t some_part arming stored within s h hs at fits =
      let v = me.0 in let f = h.each id v at in let x = t.number in
      let old = none_word s h id v t at arming within in
      let meant = f.arming t arming in
      let w : TimerView = armed_view v t in
      let pushed : (y : ℕ) → armed_by y w ≡ armed_by y v + one_if (eqb x y) = λ y. times-push number_of y v.kept.armed t in
      let was : (y : ℕ) → arming_by y v ≡ one_if (eqb x y) = λ y. ap (times_in y) arming in
      let now : IsTimers limits (stepped s (state_at x) 1 id me.1 w keeps) = moves limits s h x 1 id v w me.1 at within (omega arith) (omega arith) (omega arith) (f.stored t arming stored ∙ ap suc (sym meant.1)) refl refl
      (let a = ap is_set old in let b = pushed x in let c = same_one x x refl in omega arith)
      (omega arith) (omega arith) (omega arith)
      (λ y ne. ((let a = pushed y in let b = other_none x y (λ z. ne (sym z)) in omega arith), refl, refl, refl))
      (λ later new. let g = fits_later limits later v f in record {
        idle = λ z. absurd (omega arith);
        whole = f.whole;
        few = f.few;
        own = λ y lt. let a = f.own y lt in let b = pushed y in let c = was y in omega arith;
        past = λ y le. let a = f.past y le in let b = pushed y in let c = was y in omega arith;
        refused_own = λ y. let a = f.refused_own y in let b = pushed y in omega arith;
        arms = g.arms;
        armed = λ u c. ⊎_elim (λ had. g.armed u had) (λ e. subst (IsMeant (get_or (set s.words (state_at x) 1) 0 0) h.moment_of) e (g.arming t arming)) (Contains-push_cases v.kept.armed t u c);
        refused = g.refused;
        cancelled = g.cancelled;
        fired = g.fired;
        was_cancelled = g.was_cancelled;
        was_fired = g.was_fired;
        arming = λ u is. absurd (none_some u is);
        stored = λ u is z. absurd (none_some u is);
        set = g.set;
        read = g.read;
      })
      in (
        w,
        keeps,
        tt,
        now,
        λ u is. let e : t ≡ u = same_some t u (sym arming ∙ is) in
            ((λ i. (armed_view v (e i), me.1)), knows limits (stepped s (state_at x) 1 id me.1 w keeps) now id w (here s.views id v w at) some_part refl),
      )
