-- What a seat knows wherever the rule of its table holds.
use Rattle.std.proofs.Common.{◌≡◌, ◌≢◌, ℕ, ◌*◌, ◌<◌, ◌≤◌, ltb, length, get_or, sym, ap, ◌∙◌, subst, arith, None}
use Rattle.std.specs.Prelude.{Contains, sum_by}
use Rattle.std.proofs.lemmas.Bool.{lt-ltb}
use mathlib.Core.Option.{some}
use mathlib.Core.Logic.{dite}
use native.Mathlib.Decide.{ℕ_discrete}
use lib.ListN.{get_elem?}
use Rattle.atomic_table.specs.Table.{State}
use Rattle.pq_numbers.specs.Draws.{times_drawn, drawn_in_all, times_of}
use Rattle.pq_numbers.proofs.Sums.{one-le-sum, one_at, sum-le, sum_none, two-le-sum}
use Rattle.pq_numbers.proofs.Counts.{one_if, one_if-le, times-contains, contains-times}
use Rattle.pq_numbers.proofs.Tables as tables
use Rattle.pq_timers.specs.declared.ticket.Ticket.{Ticket}
use Rattle.pq_timers.specs.declared.words.kept.TimerLimits.{TimerLimits}
use Rattle.pq_timers.specs.declared.words.kept.TimerView.{TimerView}
use Rattle.pq_timers.specs.Words.{number_of, fired_number, times, HasArmed, KnowsAll, KnowsTimers}
use Rattle.pq_timers.specs.WordRules.{timer_kind, is_in, is_set, state_at, times_in, armed_by, refused_by, cancelled_by, fired_by, arming_by, IsMeant, IsTimers}
use Rattle.pq_timers.proofs.Counted.{drawn_times, drawn_length, sum-scaled, one_end, set-le}

-- two tickets of one number are one, as both have the timer's moment
pub one_ticket : (made : ℕ) (moment_of : ℕ → ℕ) (t u : Ticket) → IsMeant made moment_of t → IsMeant made moment_of u → t.number ≡ u.number → t ≡ u
one_ticket made moment_of t u a b n =
    let m : t.moment ≡ u.moment = sym a.1 ∙ (ap moment_of n ∙ b.1) in λ i. record { number = n i; moment = m i }

module _ {S : Type 0} (limits : TimerLimits) (s : State S TimerView) (h : IsTimers limits s) where
  abbrev made : ℕ
  made = get_or s.words 0 0

  -- the made word fits
  pub made_fits : made ≤ 268435456
  made_fits =
      let a = h.numbers.counted in let b = h.numbers.parts in let few = h.few in
      let c = sum-le (λ (v : TimerView). drawn_in_all (timer_kind.draws v)) (λ (v : TimerView). 16777216 * timer_kind.parts v) s.views (λ j v at. let f = (h.each j v at).few in let l = drawn_length v.kept.arms in omega arith) in
      let d = sum-scaled timer_kind.parts s.views in omega arith

  module _ (id : ℕ) (v : TimerView) (at : get_elem? s.views id ≡ some v) where
    -- a number that a seat drew is drawn once in all
    pub drawn_once : (x : ℕ) → times x v.kept.arms ≤ (one_if (ltb x made))
    drawn_once x = let a = one-le-sum (λ (u : TimerView). times_drawn x (timer_kind.draws u)) s.views id v at in let b = h.numbers.drawn x in let c = drawn_times x v.kept.arms in omega arith

    -- a timer that the seat armed has a state, and a state that says no other end than those that seats told
    pub armed_state : (t : Ticket) → HasArmed v.kept t → (get_or s.words (state_at t.number) 0 ≢ 0) × (get_or s.words (state_at t.number) 0 ≢ 4)
    armed_state t has =
        let x = t.number in let f = h.each id v at in
        let mine = times-contains number_of v.kept.armed t has.0 in
        let a = one-le-sum (armed_by x) s.views id v at in let b = h.armed x in let b' = set-le (get_or s.words (state_at x) 0) in
        let not_refused : refused_by x v ≡ 0 = dite (ℕ_discrete (refused_by x v) 0) (λ e. e) (λ ne. let r = contains-times number_of x v.kept.refused (omega arith) in
        absurd (has.1 (subst (Contains v.kept.refused) (one_ticket made h.moment_of r.entry t (f.refused r.entry r.within) (f.armed t has.0) r.is) r.within))) in
        let none_refused : sum_by (refused_by x) s.views ≡ 0 = sum_none (refused_by x) s.views (λ j u there. dite (ℕ_discrete j id)
        (λ e. let same : u ≡ v = one_at s.views id u v (subst (λ z. get_elem? s.views z ≡ some u) e there) at in ap (refused_by x) same ∙ not_refused)
        (λ ne. let two = two-le-sum (armed_by x) s.views id j v u at there ne in let o = (h.each j u there).refused_own x in omega arith)) in
        (λ e. let z = ap is_set e in omega arith, λ e. let r = h.refused x in let z = ap (is_in 4) e in omega arith)

    module _ (some_part : 0 < v.kept.parts) where
      -- what all seats counted, where they are joined into one
      pub alone : (f : TimerView → ℕ) → v.kept.parts ≡ v.kept.limits.seats → ((j : ℕ) (u : TimerView) → get_elem? s.views j ≡ some u → u.kept.parts ≡ 0 → f u ≡ 0) → sum_by f s.views ≡ f v
      alone f whole idle = tables.alone timer_kind limits.seats made s.views h.numbers id v at f (whole ∙ ap (λ (l : TimerLimits). l.seats) ((h.each id v at).whole some_part)) idle

      pub knows_all : v.arming ≡ None → v.kept.parts ≡ v.kept.limits.seats → KnowsAll v.kept
      knows_all quiet whole =
          let f = h.each id v at in let is = f.whole some_part in
          let tiled = tables.tiled timer_kind limits.seats made s.views h.numbers id v at (whole ∙ ap (λ (l : TimerLimits). l.seats) is) in
          let drawn : (x : ℕ) → times x v.kept.arms ≡ one_if (ltb x (length v.kept.arms)) = λ x. sym (drawn_times x v.kept.arms) ∙ (tiled x ∙ ap (λ n. one_if (ltb x n)) (drawn_length v.kept.arms)) in
          let counted : made ≡ length v.kept.arms = h.numbers.counted ∙ (alone (λ (u : TimerView). drawn_in_all (timer_kind.draws u)) whole (λ j u there z. ap drawn_in_all (h.numbers.idle j u there z)) ∙ drawn_length v.kept.arms) in
          let from_arms : (t : Ticket) → IsMeant made h.moment_of t → Contains v.kept.arms t = λ t meant.
          let a = drawn t.number in let b = ap one_if (lt-ltb t.number (length v.kept.arms) (let lt = meant.0 in omega arith)) in
          let e = contains-times number_of t.number v.kept.arms (omega arith) in
          subst (Contains v.kept.arms) (one_ticket made h.moment_of e.entry t (f.arms e.entry e.within) meant e.is) e.within in
          record {
            drawn = drawn;
            was_cancelled = λ t c.
                let known = f.was_cancelled t c in
                let a = alone (cancelled_by t.number) whole (λ j u there z. ap (times t.number) ((h.each j u there).idle z).cancelled) in
                let b = h.cancelled t.number in let d = ap (is_in 2) known.1 in
                let e = contains-times number_of t.number v.kept.cancelled (omega arith) in
                subst (Contains v.kept.cancelled) (one_ticket made h.moment_of e.entry t (f.cancelled e.entry e.within) known.0 e.is) e.within;
            was_fired = λ t c.
                let known = f.was_fired t c in
                let a = alone (fired_by t.number) whole (λ j u there z. ap (times_of fired_number t.number) ((h.each j u there).idle z).fired) in
                let b = h.fired t.number in let d = ap (is_in 3) known.1 in
                let e = contains-times fired_number t.number v.kept.fired (omega arith) in
                (e.entry, e.within, one_ticket made h.moment_of e.entry.ticket t (f.fired e.entry e.within).0 known.0 e.is);
            cancelled_from = λ t c. from_arms t (f.cancelled t c);
            refused_from = λ t c. from_arms t (f.refused t c);
            fired_from = λ g c. let meant = f.fired g c in (from_arms g.ticket meant.0, meant.1);
            all_armed = λ t c within.
                let a = f.own t.number (let l = ap (λ (l : TimerLimits). l.timers) is in omega arith) in let b : arming_by t.number v ≡ 0 = ap (times_in t.number) quiet in
                let m = times-contains number_of v.kept.arms t c in
                let e = contains-times number_of t.number v.kept.armed (omega arith) in
                subst (Contains v.kept.armed) (one_ticket made h.moment_of e.entry t (f.armed e.entry e.within) (f.arms t c) e.is) e.within;
          }

      pub knows : v.arming ≡ None → KnowsTimers v.kept
      knows quiet = record {
        drawn_once = λ x. let a = drawn_once x in let b = one_if-le (ltb x made) in omega arith;
        ended_once = λ x.
            let a = one-le-sum (refused_by x) s.views id v at in let b = one-le-sum (cancelled_by x) s.views id v at in let c = one-le-sum (fired_by x) s.views id v at in
            let d = h.refused x in let e = h.cancelled x in let g = h.fired x in let o = one_end (get_or s.words (state_at x) 0) in omega arith;
        whole = knows_all quiet;
      }
