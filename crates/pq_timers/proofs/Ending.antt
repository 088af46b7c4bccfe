-- A timer is refused or fired where it is armed.
use Rattle.std.proofs.Common.{◌≡◌, ◌≢◌, ℕ, ◌+◌, ◌-◌, ◌<◌, ◌≤◌, eqb, get_or, set, sym, refl, ap, ◌∙◌, subst, ⊎_elim, arith}
use Rattle.std.specs.Prelude.{Contains, None}
use Rattle.std.proofs.lemmas.List.Elements.{Contains-push_cases}
use mathlib.Core.Option.{none}
use mathlib.Core.Logic.{dite}
use native.Mathlib.Decide.{ℕ_discrete}
use Rattle.atomic_table.specs.Table.{Me, Act, Valid, carried_after, step, keeps, stepped, Allows}
use Rattle.atomic_table.proofs.Lists.{exchanged}
use prog.Atomic.{either}
use Rattle.pq_numbers.proofs.Sums.{one-le-sum, here}
use Rattle.pq_numbers.proofs.Counts.{one_if, same_one, other_none, times-push, times-contains}
use Rattle.pq_timers.specs.declared.ticket.Ticket.{Ticket}
use Rattle.pq_timers.specs.declared.words.kept.Firing.{Firing}
use Rattle.pq_timers.specs.declared.words.kept.TimerLimits.{TimerLimits}
use Rattle.pq_timers.specs.declared.words.kept.TimerView.{TimerView}
use Rattle.pq_timers.specs.Words.{number_of, fired_number, with_state, with_refused, with_fired, firing, HasArmed}
use Rattle.pq_timers.specs.WordRules.{is_in, is_set, state_at, armed_by, refused_by, fired_by, IsMeant, IsTimers, with_kept, read_ticket, tried_refuse, tried_fire}
use Rattle.pq_timers.proofs.Known.{one_ticket, armed_state, knows}
use Rattle.pq_timers.proofs.Later.{meant_later, fits_later}
use Rattle.pq_timers.proofs.Reading.{told}
use Rattle.pq_timers.proofs.Moving.{moves}

module _ {S : Type 0} (limits : TimerLimits) where
  -- A timer is refused where it is still armed, by the seat that armed it
  pub tries_refuse : (slots id : ℕ) (me : Me S TimerView) (t : Ticket) → 0 < me.0.kept.parts → me.0.arming ≡ None → t.number < limits.timers → Contains me.0.kept.armed t
      → Allows (IsTimers limits) slots id me (state_at t.number) (λ n. either (eqb n 1) 4 n) (λ n w. tried_refuse (step slots (state_at t.number) 1 4 none) me n w)
  tries_refuse slots id me t some_part quiet within has s h hs at fits =
      let v = me.0 in let f = h.each id v at in let x = t.number in let old : ℕ = get_or s.words (state_at x) 0 in
      let F : ℕ → Type 0 = λ z. (u : TimerView) × (a : Act S) × Valid s.homes me.1 a × IsTimers limits (stepped s (state_at x) z id me.1 u a) × tried_refuse (step slots (state_at x) 1 4 none) me old (u, carried_after me.1 a) in
      let only : (u : Ticket) → Contains v.kept.armed u → state_at x ≡ state_at u.number → t ≡ u = λ u c is.
      one_ticket (get_or s.words 0 0) h.moment_of t u (f.armed t has) (f.armed u c) (omega arith) in
      let own : (u : Ticket) → t ≡ u → HasArmed v.kept u → (old ≢ 0) × (old ≢ 4) = λ u e c. let a = armed_state limits s h id v at u c in let e' = ap (λ (z : Ticket). get_or s.words (state_at z.number) 0) e in
      (λ z. a.0 (omega arith), λ z. a.1 (omega arith)) in
      exchanged old 1 4 F
      (λ hit.
      let w : TimerView = with_kept v (with_refused (with_state v.kept t.number old) t) in
      let pushed : (y : ℕ) → refused_by y w ≡ refused_by y v + one_if (eqb x y) = λ y. times-push number_of y v.kept.refused t in
      let none_yet : refused_by x v ≡ 0 = let a = one-le-sum (refused_by x) s.views id v at in let b = h.refused x in let c = ap (is_in 4) hit in omega arith in
      let mine = times-contains number_of v.kept.armed t has in
      let now : IsTimers limits (stepped s (state_at x) 4 id me.1 w keeps) = moves limits s h x 4 id v w me.1 at within (omega arith) (omega arith) (omega arith) (h.set x (λ z. omega arith)) refl refl
      (let a = ap is_set hit in omega arith)
      (let a = pushed x in let b = same_one x x refl in omega arith)
      (omega arith) (omega arith)
      (λ y ne. (refl, (let a = pushed y in let b = other_none x y (λ z. ne (sym z)) in omega arith), refl, refl))
      (λ later new. let g = fits_later limits later v f in record {
        idle = λ z. absurd (omega arith);
        whole = f.whole;
        few = f.few;
        own = f.own;
        past = f.past;
        refused_own = λ y. let a = pushed y in let b = f.refused_own y in dite (ℕ_discrete x y)
            (λ e. let c = ap (λ (z : ℕ). refused_by z v) e in let d = ap (λ (z : ℕ). armed_by z v) e in let o = same_one x y e in omega arith)
            (λ ne. let o = other_none x y ne in omega arith);
        arms = g.arms;
        armed = g.armed;
        refused = λ u c. ⊎_elim (λ had. g.refused u had) (λ e. subst (IsMeant (get_or (set s.words (state_at x) 4) 0 0) h.moment_of) e (g.armed t has)) (Contains-push_cases v.kept.refused t u c);
        cancelled = g.cancelled;
        fired = g.fired;
        was_cancelled = g.was_cancelled;
        was_fired = g.was_fired;
        arming = g.arming;
        stored = g.stored;
        set = λ ne z. omega arith;
        read = g.read;
      })
      in (
        w,
        keeps,
        tt,
        now,
        λ u c is. let e = only u c is in
            ((λ found. (λ i. (with_kept v (with_refused (with_state v.kept (e i).number old) (e i)), me.1))), (λ ne. absurd (ne hit)), own u e, knows limits (stepped s (state_at x) 4 id me.1 w keeps) now id w (here s.views id v w at) some_part quiet),
      ))
      (λ miss.
      let w : TimerView = with_kept v (with_state v.kept t.number old) in
      let now : IsTimers limits (stepped s (state_at x) old id me.1 w keeps) = told limits s h x old id v v.kept.was_cancelled v.kept.was_fired me.1 at some_part refl f.was_cancelled f.was_fired in
      (w, keeps, tt, now, λ u c is. ((λ found. absurd (miss found)), (λ ne i. (with_kept v (with_state v.kept (only u c is i).number old), me.1)), own u (only u c is), knows limits (stepped s (state_at x) old id me.1 w keeps) now id w (here s.views id v w at) some_part quiet)))

  -- A timer is fired where it is armed, by a seat that read its moment and saw that its state was not none
  pub tries_fire : (slots id x now_is : ℕ) (me : Me S TimerView) → 0 < me.0.kept.parts → me.0.arming ≡ None → x < limits.timers → me.0.kept.at ≡ x → me.0.kept.moment_word ≢ 0
      → me.0.kept.state_of ≡ x → me.0.kept.state_word ≢ 0 → me.0.kept.moment_word - 1 ≤ now_is
      → Allows (IsTimers limits) slots id me (state_at x) (λ n. either (eqb n 1) 3 n) (λ n w. tried_fire (step slots (state_at x) 1 3 none) me n w now_is)
  tries_fire slots id x now_is me some_part quiet within looked some_moment waited some_state due s h hs at fits =
      let v = me.0 in let f = h.each id v at in let t : Ticket = read_ticket v.kept in let old : ℕ = get_or s.words (state_at x) 0 in
      let F : ℕ → Type 0 = λ z. (u : TimerView) × (a : Act S) × Valid s.homes me.1 a × IsTimers limits (stepped s (state_at x) z id me.1 u a) × tried_fire (step slots (state_at x) 1 3 none) me old (u, carried_after me.1 a) now_is in
      let was_set : old ≢ 0 = λ z. f.set some_state (ap (λ (q : ℕ). get_or s.words (state_at q) 0) waited ∙ z) in
      let small : old ≤ 4 = h.states x in
      exchanged old 1 3 F
      (λ hit.
      let g' : Firing = firing t now_is in
      let w : TimerView = with_kept v (with_fired (with_state v.kept t.number old) g') in
      let meant = f.read some_moment in
      let pushed : (y : ℕ) → fired_by y w ≡ fired_by y v + one_if (eqb v.kept.at y) = λ y. times-push fired_number y v.kept.fired g' in
      let now : IsTimers limits (stepped s (state_at x) 3 id me.1 w keeps) = moves limits s h x 3 id v w me.1 at within (omega arith) (omega arith) (omega arith) (h.set x was_set) refl refl
      (let a = ap is_set hit in omega arith)
      (omega arith) (omega arith)
      (let a = pushed x in let b = same_one v.kept.at x looked in omega arith)
      (λ y ne. (refl, refl, refl, (let a = pushed y in let b = other_none v.kept.at y (λ z. ne (sym z ∙ looked)) in omega arith)))
      (λ later new. let g = fits_later limits later v f in record {
        idle = λ z. absurd (omega arith);
        whole = f.whole;
        few = f.few;
        own = f.own;
        past = f.past;
        refused_own = f.refused_own;
        arms = g.arms;
        armed = g.armed;
        refused = g.refused;
        cancelled = g.cancelled;
        fired = λ u c. ⊎_elim (λ had. g.fired u had) (λ e. subst (λ (z : Firing). IsMeant (get_or (set s.words (state_at x) 3) 0 0) h.moment_of z.ticket × (z.ticket.moment ≤ z.now)) e (meant_later later t meant, due)) (Contains-push_cases v.kept.fired g' u c);
        was_cancelled = g.was_cancelled;
        was_fired = g.was_fired;
        arming = g.arming;
        stored = g.stored;
        set = λ ne z. let a = ap (λ (q : ℕ). get_or (set s.words (state_at x) 3) (state_at q) 0) looked in omega arith;
        read = g.read;
      })
      in
      (w, keeps, tt, now, ((λ found. refl), (λ ne. absurd (ne hit)), was_set, small, knows limits (stepped s (state_at x) 3 id me.1 w keeps) now id w (here s.views id v w at) some_part quiet)))
      (λ miss.
      let w : TimerView = with_kept v (with_state v.kept t.number old) in
      let told_now : IsTimers limits (stepped s (state_at t.number) (get_or s.words (state_at t.number) 0) id me.1 (with_kept v (with_state v.kept t.number (get_or s.words (state_at t.number) 0))) keeps) = told limits s h t.number (get_or s.words (state_at t.number) 0) id v v.kept.was_cancelled v.kept.was_fired me.1 at some_part refl f.was_cancelled f.was_fired in
      let now : IsTimers limits (stepped s (state_at x) old id me.1 w keeps) = subst (λ (y : ℕ). IsTimers limits (stepped s (state_at y) (get_or s.words (state_at y) 0) id me.1 (with_kept v (with_state v.kept t.number (get_or s.words (state_at y) 0))) keeps)) looked told_now in
      (w, keeps, tt, now, ((λ found. absurd (miss found)), (λ ne. refl), was_set, small, knows limits (stepped s (state_at x) old id me.1 w keeps) now id w (here s.views id v w at) some_part quiet)))
