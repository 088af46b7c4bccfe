-- A number is drawn, and the moment of its timer stored.
use Rattle.std.proofs.Common.{◌≡◌, ◌≢◌, ℕ, suc, ◌+◌, ◌%◌, ◌^◌, ◌<◌, Bool, true, eqb, ltb, cond, [], ◌∷◌, length, get_or, set, sym, refl, ap, ◌∙◌, subst, ⊎_elim, arith, eq-eqb, ne_eqb, length-set, get_or-set_same, get_or-set_other, mod-eq_of_lt}
use Rattle.std.specs.Prelude.{Some, None}
use Rattle.std.proofs.lemmas.Bool.{lt-ltb, le-ltb}
use Rattle.std.proofs.lemmas.List.{map-append}
use Rattle.std.proofs.lemmas.List.Elements.{Contains-push_cases}
use mathlib.Core.Option.{none}
use mathlib.Core.Logic.{dite}
use native.Mathlib.Decide.{ℕ_discrete, dec_lt}
use Rattle.atomic_table.specs.Table.{Me, step, keeps, stepped, Allows}
use Rattle.pq_numbers.specs.Tables.{AreDrawn}
use Rattle.pq_numbers.proofs.Sums.{here, each_set}
use Rattle.pq_numbers.proofs.Counts.{one_if, other_none, times-push}
use Rattle.pq_numbers.proofs.Tables as tables
use Rattle.pq_timers.specs.declared.ticket.Ticket.{Ticket}
use Rattle.pq_timers.specs.declared.words.kept.TimerLimits.{TimerLimits}
use Rattle.pq_timers.specs.declared.words.kept.TimerView.{TimerView}
use Rattle.pq_timers.specs.Words.{ticket, number_of, times}
use Rattle.pq_timers.specs.WordRules.{timer_kind, arm_draw, is_in, is_set, state_at, moment_at, times_in, armed_by, refused_by, cancelled_by, fired_by, arming_by, IsMeant, FitsTimers, IsTimers, drawn_view, drew, stored_moment}
use Rattle.pq_timers.proofs.Counted.{length-push, state_apart, not_made_state}
use Rattle.pq_timers.proofs.Known.{made_fits, knows}
use Rattle.pq_timers.proofs.Later.{Later, fits_later}
use Rattle.pq_timers.proofs.Options.{false_true, same_some, picked, picked_is}

module _ {S : Type 0} (limits : TimerLimits) where
  -- Drawing adds to the made word and to the arms of the seat, and the moment is that of the number from then on
  pub draws : (slots id : ℕ) (me : Me S TimerView) (moment : ℕ) → 0 < me.0.kept.parts → me.0.arming ≡ None → length me.0.kept.arms < 16777216
      → Allows (IsTimers limits) slots id me 0 (λ n. (n + 1) % 2 ^ 64) (λ n w. drew (step slots 0 1 0 none) me n w moment)
  draws slots id me moment some_part quiet small s h hs at fits =
      let v = me.0 in let f = h.each id v at in let made : ℕ = get_or s.words 0 0 in
      let fit = made_fits limits s h in let wide = h.wide in let is = f.whole some_part in
      let is_timers : v.kept.limits.timers ≡ limits.timers = ap (λ (l : TimerLimits). l.timers) is in
      let next : ℕ = (made + 1) % 2 ^ 64 in
      let n : next ≡ made + 1 = mod-eq_of_lt (omega arith) in
      let t : Ticket = ticket made moment in
      let w : TimerView = drawn_view v made moment in
      let word' : ℕ → ℕ = λ j. get_or (set s.words 0 next) j 0 in
      let first : word' 0 ≡ made + 1 = get_or-set_same s.words 0 next 0 (omega arith) ∙ n in
      let else_word : (j : ℕ) → j ≢ 0 → word' j ≡ get_or s.words j 0 = λ j ne. get_or-set_other s.words 0 j next 0 ne in
      let state : (y : ℕ) → word' (state_at y) ≡ get_or s.words (state_at y) 0 = λ y. else_word (state_at y) (λ e. omega arith) in
      let moment_word : (y : ℕ) → word' (moment_at y) ≡ get_or s.words (moment_at y) 0 = λ y. else_word (moment_at y) (λ e. omega arith) in
      let moment_of : ℕ → ℕ = λ y. cond (eqb y made) moment (h.moment_of y) in
      let here_moment : moment_of made ≡ moment = ap (λ (b : Bool). cond b moment (h.moment_of made)) (eq-eqb made made refl) in
      let else_moment : (y : ℕ) → y < made → moment_of y ≡ h.moment_of y = λ y lt. ap (λ (b : Bool). cond b moment (h.moment_of y)) (ne_eqb y made (λ e. omega arith)) in
      let later : Later (λ j. get_or s.words j 0) word' h.moment_of moment_of = record {
        made = omega arith;
        same = else_moment;
        cancelled = λ x e. state x ∙ e;
        fired = λ x e. state x ∙ e;
        set = λ x ne z. ne (sym (state x) ∙ z);
        moments = λ x m e. moment_word x ∙ e;
      } in
      let g : FitsTimers limits word' moment_of v = fits_later limits later v f in
      let meant : IsMeant (word' 0) moment_of t = (omega arith, here_moment) in
      let pushed : (x : ℕ) → times x w.kept.arms ≡ times x v.kept.arms + one_if (eqb made x) = λ x. times-push number_of x v.kept.arms t in
      let none_arming : (x : ℕ) → arming_by x v ≡ 0 = λ x. ap (times_in x) quiet in
      let arming : (x : ℕ) → arming_by x w ≡ cond (ltb made v.kept.limits.timers) (one_if (eqb made x)) 0 = λ x. picked x t (ltb made v.kept.limits.timers) in
      let now : IsTimers limits (stepped s 0 next id me.1 w keeps) = record {
        few = h.few;
        few_timers = h.few_timers;
        wide = length-set s.words 0 next ∙ h.wide;
        numbers = subst (λ z. AreDrawn timer_kind limits.seats z (set s.views id w)) (sym first) (tables.drew timer_kind limits.seats made s.views h.numbers id v at w 1 true some_part refl (map-append arm_draw v.kept.arms (t ∷ [])));
        armed = tables.told_else armed_by is_set state_at s.words s.views h.armed id v w at 0 next not_made_state (λ y. refl);
        refused = tables.told_else refused_by (is_in 4) state_at s.words s.views h.refused id v w at 0 next not_made_state (λ y. refl);
        cancelled = tables.told_else cancelled_by (is_in 2) state_at s.words s.views h.cancelled id v w at 0 next not_made_state (λ y. refl);
        fired = tables.told_else fired_by (is_in 3) state_at s.words s.views h.fired id v w at 0 next not_made_state (λ y. refl);
        states = λ x. let a = h.states x in let b = state x in omega arith;
        moment_of = moment_of;
        moments = λ x ne. let m = h.moments x (λ z. ne (moment_word x ∙ z)) in (let lt = m.0 in omega arith, moment_word x ∙ (m.1 ∙ ap suc (sym (else_moment x m.0))));
        set = λ x ne. let a = h.set x (λ z. ne (state x ∙ z)) in let m = h.moments x (λ z. omega arith) in moment_word x ∙ (a ∙ ap suc (sym (else_moment x m.0)));
        each = each_set (FitsTimers limits word' moment_of) s.views id w
            (record {
              idle = λ z. absurd (omega arith);
              whole = f.whole;
              few = let a = f.few in let b = length-push v.kept.arms t in omega arith;
              own = λ x lt. let a = f.own x lt in let b = pushed x in let c = none_arming x in let d = arming x in dite (dec_lt made limits.timers)
                  (λ in_timers. let e = ap (λ (b : Bool). cond b (one_if (eqb made x)) 0) (lt-ltb made v.kept.limits.timers (omega arith)) in omega arith)
                  (λ no. let e = ap (λ (b : Bool). cond b (one_if (eqb made x)) 0) (le-ltb made v.kept.limits.timers (omega arith)) in let o = other_none made x (λ z. omega arith) in omega arith);
              past = λ x le. let a = f.past x le in let d = arming x in dite (dec_lt made limits.timers)
                  (λ in_timers. let e = ap (λ (b : Bool). cond b (one_if (eqb made x)) 0) (lt-ltb made v.kept.limits.timers (omega arith)) in let o = other_none made x (λ z. omega arith) in omega arith)
                  (λ no. let e = ap (λ (b : Bool). cond b (one_if (eqb made x)) 0) (le-ltb made v.kept.limits.timers (omega arith)) in omega arith);
              refused_own = f.refused_own;
              arms = λ u c. ⊎_elim (λ old. g.arms u old) (λ e. subst (IsMeant (word' 0) moment_of) e meant) (Contains-push_cases v.kept.arms t u c);
              armed = g.armed;
              refused = g.refused;
              cancelled = g.cancelled;
              fired = g.fired;
              was_cancelled = g.was_cancelled;
              was_fired = g.was_fired;
              arming = λ u is. subst (IsMeant (word' 0) moment_of) (picked_is (ltb made v.kept.limits.timers) t u is) meant;
              stored = λ u is stored. absurd (false_true stored);
              set = g.set;
              read = g.read;
            })
            (λ j u there. fits_later limits later u (h.each j u there));
      } in
      (w, keeps, tt, now, (refl, omega arith, λ past. knows limits (stepped s 0 next id me.1 w keeps) now id w (here s.views id v w at) some_part (ap (λ (b : Bool). cond b (Some t) None) (le-ltb made v.kept.limits.timers past))))

  -- The moment of the timer that the seat is about to arm is stored
  pub stores_moment : (slots id : ℕ) (me : Me S TimerView) (t : Ticket) → 0 < me.0.kept.parts → me.0.arming ≡ Some t → t.number < limits.timers
      → Allows (IsTimers limits) slots id me (moment_at t.number) (λ _. t.moment + 1) (λ n w. stored_moment (step slots (moment_at t.number) (t.moment + 1) 0 none) me n w)
  stores_moment slots id me t some_part arming within s h hs at fits =
      let v = me.0 in let f = h.each id v at in let wide = h.wide in
      let i : ℕ = moment_at t.number in let n : ℕ = t.moment + 1 in
      let w : TimerView = record v { stored = true } in
      let word' : ℕ → ℕ = λ j. get_or (set s.words i n) j 0 in
      let meant = f.arming t arming in
      let new : word' i ≡ suc t.moment = get_or-set_same s.words i n 0 (omega arith) ∙ (let z : n ≡ suc t.moment = omega arith in z) in
      let else_word : (j : ℕ) → j ≢ i → word' j ≡ get_or s.words j 0 = λ j ne. get_or-set_other s.words i j n 0 ne in
      let state : (y : ℕ) → word' (state_at y) ≡ get_or s.words (state_at y) 0 = λ y. else_word (state_at y) (λ e. omega arith) in
      let first : word' 0 ≡ get_or s.words 0 0 = else_word 0 (λ e. omega arith) in
      let moment_word : (y : ℕ) → y ≢ t.number → word' (moment_at y) ≡ get_or s.words (moment_at y) 0 = λ y ne. else_word (moment_at y) (λ e. ne (omega arith)) in
      let later : Later (λ j. get_or s.words j 0) word' h.moment_of h.moment_of = record {
        made = omega arith;
        same = λ x lt. refl;
        cancelled = λ x e. state x ∙ e;
        fired = λ x e. state x ∙ e;
        set = λ x ne z. ne (sym (state x) ∙ z);
        moments = λ x m e. dite (ℕ_discrete x t.number)
            (λ is. let a : get_or s.words (moment_at x) 0 ≡ suc (h.moment_of x) = (h.moments x (λ z. omega arith)).1 in let b = ap h.moment_of is in let c = meant.1 in
            ap (λ (y : ℕ). word' (moment_at y)) is ∙ (new ∙ (let z : suc t.moment ≡ suc m = omega arith in z)))
            (λ ne. moment_word x ne ∙ e);
      } in
      let g : FitsTimers limits word' h.moment_of v = fits_later limits later v f in
      let now : IsTimers limits (stepped s i n id me.1 w keeps) = record {
        few = h.few;
        few_timers = h.few_timers;
        wide = length-set s.words i n ∙ h.wide;
        numbers = subst (λ z. AreDrawn timer_kind limits.seats z (set s.views id w)) (sym first) (tables.kept timer_kind limits.seats (get_or s.words 0 0) s.views h.numbers id v at w refl refl);
        armed = tables.told_else armed_by is_set state_at s.words s.views h.armed id v w at i n (state_apart t.number) (λ y. refl);
        refused = tables.told_else refused_by (is_in 4) state_at s.words s.views h.refused id v w at i n (state_apart t.number) (λ y. refl);
        cancelled = tables.told_else cancelled_by (is_in 2) state_at s.words s.views h.cancelled id v w at i n (state_apart t.number) (λ y. refl);
        fired = tables.told_else fired_by (is_in 3) state_at s.words s.views h.fired id v w at i n (state_apart t.number) (λ y. refl);
        states = λ x. let a = h.states x in let b = state x in omega arith;
        moment_of = h.moment_of;
        moments = λ x ne. dite (ℕ_discrete x t.number)
            (λ is. (let a = meant.0 in omega arith, ap (λ (y : ℕ). word' (moment_at y)) is ∙ (new ∙ ap suc (sym (ap h.moment_of is ∙ meant.1)))))
            (λ no. let m = h.moments x (λ z. ne (moment_word x no ∙ z)) in (let lt = m.0 in omega arith, moment_word x no ∙ m.1));
        set = λ x ne. later.moments x (h.moment_of x) (h.set x (λ z. ne (state x ∙ z)));
        each = each_set (FitsTimers limits word' h.moment_of) s.views id w
            (record {
              idle = λ z. absurd (omega arith);
              whole = f.whole;
              few = f.few;
              own = f.own;
              past = f.past;
              refused_own = f.refused_own;
              arms = g.arms;
              armed = g.armed;
              refused = g.refused;
              cancelled = g.cancelled;
              fired = g.fired;
              was_cancelled = g.was_cancelled;
              was_fired = g.was_fired;
              arming = g.arming;
              stored = λ u is stored. let e : t ≡ u = same_some t u (sym arming ∙ is) in subst (λ (z : Ticket). word' (moment_at z.number) ≡ suc z.moment) e new;
              set = g.set;
              read = g.read;
            })
            (λ j u there. fits_later limits later u (h.each j u there));
      } in
      (w, keeps, tt, now, refl)
