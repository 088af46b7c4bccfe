-- The state of one timer becomes another.
use Rattle.std.proofs.Common.{◌≡◌, ◌≢◌, ℕ, suc, ◌+◌, ◌<◌, ◌≤◌, List, map, length, get_or, set, sym, refl, ap, ◌∙◌, subst, arith, length-set, get_or-set_same, get_or-set_other}
use mathlib.Core.Option.{some}
use mathlib.Core.Logic.{dite}
use native.Mathlib.Decide.{ℕ_discrete}
use lib.ListN.{get_elem?}
use Rattle.atomic_table.specs.Table.{State, keeps, stepped}
use Rattle.pq_numbers.specs.Tables.{AreDrawn}
use Rattle.pq_numbers.proofs.Sums.{each_set}
use Rattle.pq_numbers.proofs.Counts.{other_none}
use Rattle.pq_numbers.proofs.Tables as tables
use Rattle.pq_timers.specs.declared.words.kept.TimerLimits.{TimerLimits}
use Rattle.pq_timers.specs.declared.words.kept.TimerView.{TimerView}
use Rattle.pq_timers.specs.WordRules.{timer_kind, arm_draw, is_in, is_set, state_at, moment_at, armed_by, refused_by, cancelled_by, fired_by, FitsTimers, IsTimers}
use Rattle.pq_timers.proofs.Counted.{one_state}
use Rattle.pq_timers.proofs.Later.{Later, fits_later}

module _ {S : Type 0} (limits : TimerLimits) where
  -- The state of one timer becomes another, as the counts of the view say, and never from cancelled or fired
  pub moves : (s : State S TimerView) (h : IsTimers limits s) (x n id : ℕ) (v w : TimerView) (c : List (ℕ × S)) → get_elem? s.views id ≡ some v
      → x < limits.timers → n ≤ 4 → 0 < n → get_or s.words (state_at x) 0 ≤ 1 → get_or s.words (moment_at x) 0 ≡ suc (h.moment_of x)
      → w.kept.parts ≡ v.kept.parts → w.kept.arms ≡ v.kept.arms
      → is_set n + armed_by x v ≡ is_set (get_or s.words (state_at x) 0) + armed_by x w
      → is_in 4 n + refused_by x v ≡ refused_by x w
      → is_in 2 n + cancelled_by x v ≡ cancelled_by x w
      → is_in 3 n + fired_by x v ≡ fired_by x w
      → ((y : ℕ) → y ≢ x → (armed_by y w ≡ armed_by y v) × (refused_by y w ≡ refused_by y v) × (cancelled_by y w ≡ cancelled_by y v) × (fired_by y w ≡ fired_by y v))
      → (Later (λ j. get_or s.words j 0) (λ j. get_or (set s.words (state_at x) n) j 0) h.moment_of h.moment_of → get_or (set s.words (state_at x) n) (state_at x) 0 ≡ n → FitsTimers limits (λ j. get_or (set s.words (state_at x) n) j 0) h.moment_of w)
      → IsTimers limits (stepped s (state_at x) n id c w keeps)
  moves s h x n id v w c at within small ends unended stored parts arms armed refused cancelled fired others fits =
      let wide = h.wide in let i : ℕ = state_at x in
      let word' : ℕ → ℕ = λ j. get_or (set s.words i n) j 0 in
      let low : i < length s.words = omega arith in
      let new : word' i ≡ n = get_or-set_same s.words i n 0 low in
      let else_word : (j : ℕ) → j ≢ i → word' j ≡ get_or s.words j 0 = λ j ne. get_or-set_other s.words i j n 0 ne in
      let first : word' 0 ≡ get_or s.words 0 0 = else_word 0 (λ e. omega arith) in
      let moment_word : (y : ℕ) → word' (moment_at y) ≡ get_or s.words (moment_at y) 0 = λ y. else_word (moment_at y) (λ e. omega arith) in
      let state_else : (y : ℕ) → y ≢ x → word' (state_at y) ≡ get_or s.words (state_at y) 0 = λ y ne. else_word (state_at y) (λ e. ne (omega arith)) in
      let old : (m : ℕ) → 1 < m → (y : ℕ) → get_or s.words (state_at y) 0 ≡ m → word' (state_at y) ≡ m = λ m more y is. dite (ℕ_discrete y x)
      (λ e. let a = ap (λ (z : ℕ). get_or s.words (state_at z) 0) e in absurd (omega arith))
      (λ ne. state_else y ne ∙ is) in
      let later : Later (λ j. get_or s.words j 0) word' h.moment_of h.moment_of = record {
        made = omega arith;
        same = λ y lt. refl;
        cancelled = old 2 (omega arith);
        fired = old 3 (omega arith);
        set = λ y ne z. dite (ℕ_discrete y x) (λ e. let a = ap (λ (q : ℕ). word' (state_at q)) e in omega arith) (λ no. ne (sym (state_else y no) ∙ z));
        moments = λ y m e. moment_word y ∙ e;
      } in
      let no : (m : ℕ) → 1 < m → is_in m (get_or s.words i 0) ≡ 0 = λ m more. other_none (get_or s.words i 0) m (λ e. omega arith) in
      let no4 = no 4 (omega arith) in let no2 = no 2 (omega arith) in let no3 = no 3 (omega arith) in
      record {
        few = h.few;
        few_timers = h.few_timers;
        wide = length-set s.words i n ∙ h.wide;
        numbers = subst (λ z. AreDrawn timer_kind limits.seats z (set s.views id w)) (sym first) (tables.kept timer_kind limits.seats (get_or s.words 0 0) s.views h.numbers id v at w parts (ap (map arm_draw) arms));
        armed = tables.told armed_by is_set state_at s.words s.views h.armed id v w at x n (one_state x) low armed (λ y ne. (others y ne).0);
        refused = tables.told refused_by (is_in 4) state_at s.words s.views h.refused id v w at x n (one_state x) low (omega arith) (λ y ne. (others y ne).1);
        cancelled = tables.told cancelled_by (is_in 2) state_at s.words s.views h.cancelled id v w at x n (one_state x) low (omega arith) (λ y ne. (others y ne).2);
        fired = tables.told fired_by (is_in 3) state_at s.words s.views h.fired id v w at x n (one_state x) low (omega arith) (λ y ne. (others y ne).3);
        states = λ y. dite (ℕ_discrete y x)
            (λ e. let a = ap (λ (z : ℕ). word' (state_at z)) e in omega arith)
            (λ ne. let a = state_else y ne in let b = h.states y in omega arith);
        moment_of = h.moment_of;
        moments = λ y ne. let m = h.moments y (λ z. ne (moment_word y ∙ z)) in (let lt = m.0 in omega arith, moment_word y ∙ m.1);
        set = λ y ne. dite (ℕ_discrete y x)
            (λ e. subst (λ z. word' (moment_at z) ≡ suc (h.moment_of z)) (sym e) (moment_word x ∙ stored))
            (λ no'. moment_word y ∙ h.set y (λ z. ne (state_else y no' ∙ z)));
        each = each_set (FitsTimers limits word' h.moment_of) s.views id w (fits later new) (λ j u there. fits_later limits later u (h.each j u there));
      }
