-- The seats of a timers' table are dealt and joined, and the rule holds when it opens.
use Rattle.std.proofs.Common.{◌≡◌, ℕ, zero, suc, ◌+◌, ◌-◌, ◌*◌, ◌<◌, ◌≤◌, [], ◌∷◌, ◌++◌, List, length, get_or, set, replicate, sym, refl, ap, ◌∙◌, subst, ⊎_elim, arith}
use Rattle.std.specs.Prelude.{None, Some, sum_by}
use Rattle.std.proofs.lemmas.List.{length-replicate, map-append}
use Rattle.std.proofs.lemmas.List.Elements.{Contains-append_cases}
use Rattle.atomic_table.specs.Table.{Splits, Joins, opening}
use Rattle.pq_numbers.specs.Tables.{AreDrawn}
use Rattle.pq_numbers.proofs.Sums.{sum_split, sum_joined, each_split, each_joined, at_before, one_view}
use Rattle.pq_numbers.proofs.Counts.{times-append}
use Rattle.pq_numbers.proofs.Tables as tables
use Rattle.pq_timers.specs.declared.ticket.Ticket.{Ticket}
use Rattle.pq_timers.specs.declared.words.kept.TimerLimits.{TimerLimits}
use Rattle.pq_timers.specs.declared.words.kept.TimerView.{TimerView}
use Rattle.pq_timers.specs.Words.{number_of, fired_number, times}
use Rattle.pq_timers.specs.WordRules.{timer_kind, arm_draw, is_in, is_set, state_at, moment_at, times_in, armed_by, refused_by, cancelled_by, fired_by, arming_by, AreMeant, FitsTimers, IsTimers, giver, first_giver, dealt_one, one_part, views_joined, spent_view}

get_or-replicate_zero : (n j : ℕ) → get_or {A = ℕ} (replicate n 0) j 0 ≡ 0
get_or-replicate_zero zero j = refl
get_or-replicate_zero (suc n) zero = refl
get_or-replicate_zero (suc n) (suc j) = get_or-replicate_zero n j

length-append : {A : Type 0} (l k : List A) → length (l ++ k) ≡ length l + length k
length-append [] k = omega arith
length-append (x ∷ l) k = let r = length-append l k in omega arith

none_some : (t : Ticket) → None ≡ Some t → ⊥
none_some t e = absurd (cc)

-- the view of a seat that has done nothing
fresh_fits : (limits own : TimerLimits) (parts : ℕ) (word moment_of : ℕ → ℕ) → (0 < parts → own ≡ limits) → FitsTimers limits word moment_of (giver own parts)
fresh_fits limits own parts word moment_of whole = record {
  idle = λ z. record { armed = refl; refused = refl; cancelled = refl; fired = refl; arming = refl };
  whole = whole;
  few = omega arith;
  own = λ x lt. omega arith;
  past = λ x le. omega arith;
  refused_own = λ x. omega arith;
  arms = λ t c. let lt = c.1 in absurd (omega arith);
  armed = λ t c. let lt = c.1 in absurd (omega arith);
  refused = λ t c. let lt = c.1 in absurd (omega arith);
  cancelled = λ t c. let lt = c.1 in absurd (omega arith);
  fired = λ t c. let lt = c.1 in absurd (omega arith);
  was_cancelled = λ t c. let lt = c.1 in absurd (omega arith);
  was_fired = λ t c. let lt = c.1 in absurd (omega arith);
  arming = λ t is. absurd (none_some t is);
  stored = λ t is z. absurd (none_some t is);
  set = λ ne. absurd (ne refl);
  read = λ ne. absurd (ne refl);
}

module _ {S : Type 0} (limits : TimerLimits) where
  -- One part goes to a new seat
  pub deals : (id : ℕ) (own : TimerLimits) (parts : ℕ) → Splits (IsTimers {S = S} limits) id (giver own (suc parts)) (dealt_one (giver own (suc parts))) (one_part (giver own (suc parts)))
  deals id own parts s h at =
      let v : TimerView = giver own (suc parts) in let l : TimerView = dealt_one v in let r : TimerView = one_part v in
      let f = h.each id v at in let word : ℕ → ℕ = λ j. get_or s.words j 0 in
      let split : (g : TimerView → ℕ) → g l + g r ≡ g v → sum_by g (set s.views id l ++ r ∷ []) ≡ sum_by g s.views = λ g. sum_split g s.views id v l r at in
      record {
        few = h.few;
        few_timers = h.few_timers;
        wide = h.wide;
        numbers = tables.split timer_kind limits.seats (get_or s.words 0 0) s.views h.numbers id v at l r (omega arith) refl refl refl;
        armed = λ x. split (armed_by x) refl ∙ h.armed x;
        refused = λ x. split (refused_by x) refl ∙ h.refused x;
        cancelled = λ x. split (cancelled_by x) refl ∙ h.cancelled x;
        fired = λ x. split (fired_by x) refl ∙ h.fired x;
        states = h.states;
        moment_of = h.moment_of;
        moments = h.moments;
        set = h.set;
        each = each_split (FitsTimers limits word h.moment_of) s.views id l r
            (fresh_fits limits own (suc parts - 1) word h.moment_of (λ z. f.whole (omega arith)))
            (fresh_fits limits own 1 word h.moment_of (λ z. f.whole (omega arith)))
            h.each;
      }

  -- A seat takes in another, which is spent
  pub joins : (id other : ℕ) (v w : TimerView) → 0 < v.kept.parts → w.arming ≡ None → Joins (IsTimers {S = S} limits) id v other w (views_joined v w) spent_view
  joins id other v w some_part quiet s h at apart to =
      let b : TimerView = views_joined v w in let spent : TimerView = spent_view in
      let before = at_before s.views id other b w apart to in
      let f = h.each id v at in let g = h.each other w before in let word : ℕ → ℕ = λ j. get_or s.words j 0 in
      let both : (m : TimerView → ℕ) → m b ≡ m v + m w → m spent ≡ 0 → sum_by m (set (set s.views id b) other spent) ≡ sum_by m s.views = λ m. sum_joined m s.views id other v w b spent at to in
      let of_arms : (x : ℕ) → times x b.kept.arms ≡ times x v.kept.arms + times x w.kept.arms = λ x. times-append number_of x v.kept.arms w.kept.arms in
      let of_armed : (x : ℕ) → armed_by x b ≡ armed_by x v + armed_by x w = λ x. times-append number_of x v.kept.armed w.kept.armed in
      let of_refused : (x : ℕ) → refused_by x b ≡ refused_by x v + refused_by x w = λ x. times-append number_of x v.kept.refused w.kept.refused in
      let none : (x : ℕ) → arming_by x w ≡ 0 = λ x. ap (times_in x) quiet in
      let meant : (ts us : List Ticket) → AreMeant (word 0) h.moment_of ts → AreMeant (word 0) h.moment_of us → AreMeant (word 0) h.moment_of (ts ++ us) = λ ts us m n t c. ⊎_elim (m t) (n t) (Contains-append_cases ts us t c) in
      record {
        few = h.few;
        few_timers = h.few_timers;
        wide = h.wide;
        numbers = tables.joined timer_kind limits.seats (get_or s.words 0 0) s.views h.numbers id v at other w b spent apart to refl (map-append arm_draw v.kept.arms w.kept.arms) refl refl;
        armed = λ x. both (armed_by x) (of_armed x) refl ∙ h.armed x;
        refused = λ x. both (refused_by x) (of_refused x) refl ∙ h.refused x;
        cancelled = λ x. both (cancelled_by x) (times-append number_of x v.kept.cancelled w.kept.cancelled) refl ∙ h.cancelled x;
        fired = λ x. both (fired_by x) (times-append fired_number x v.kept.fired w.kept.fired) refl ∙ h.fired x;
        states = h.states;
        moment_of = h.moment_of;
        moments = h.moments;
        set = h.set;
        each = each_joined (FitsTimers limits word h.moment_of) s.views id other b spent
            (record {
              idle = λ z. absurd (omega arith);
              whole = λ z. f.whole some_part;
              few = let x = f.few in let y = g.few in let l = length-append v.kept.arms w.kept.arms in omega arith;
              own = λ x lt. let x1 = f.own x lt in let x2 = g.own x lt in let x3 = of_arms x in let x4 = of_armed x in let x5 = none x in omega arith;
              past = λ x le. let x1 = f.past x le in let x2 = g.past x le in let x4 = of_armed x in let x5 = none x in omega arith;
              refused_own = λ x. let x1 = f.refused_own x in let x2 = g.refused_own x in let x3 = of_armed x in let x4 = of_refused x in omega arith;
              arms = meant v.kept.arms w.kept.arms f.arms g.arms;
              armed = meant v.kept.armed w.kept.armed f.armed g.armed;
              refused = meant v.kept.refused w.kept.refused f.refused g.refused;
              cancelled = meant v.kept.cancelled w.kept.cancelled f.cancelled g.cancelled;
              fired = λ t c. ⊎_elim (f.fired t) (g.fired t) (Contains-append_cases v.kept.fired w.kept.fired t c);
              was_cancelled = λ t c. ⊎_elim (f.was_cancelled t) (g.was_cancelled t) (Contains-append_cases v.kept.was_cancelled w.kept.was_cancelled t c);
              was_fired = λ t c. ⊎_elim (f.was_fired t) (g.was_fired t) (Contains-append_cases v.kept.was_fired w.kept.was_fired t c);
              arming = f.arming;
              stored = f.stored;
              set = f.set;
              read = f.read;
            })
            (fresh_fits limits (record { seats = 0; timers = 0 }) 0 word h.moment_of (λ z. absurd (omega arith)))
            h.each;
      }

  -- The rule holds where no number is drawn and one seat has all parts
  pub opens : (n : ℕ) (homes : List S) → n ≡ 2 * limits.timers + 1 → limits.seats ≤ 16 → limits.timers ≤ 1048576 → IsTimers {S = S} limits (opening (replicate n 0) homes (first_giver limits))
  opens n homes size few few_timers =
      let zero_word : (j : ℕ) → get_or {A = ℕ} (replicate n 0) j 0 ≡ 0 = λ j. get_or-replicate_zero n j in
      let v : TimerView = first_giver limits in
      record {
        few = few;
        few_timers = few_timers;
        wide = length-replicate n 0 ∙ size;
        numbers = subst (λ z. AreDrawn timer_kind limits.seats z (v ∷ [])) (sym (zero_word 0)) (tables.opens timer_kind limits.seats v refl refl);
        armed = λ x. sym (ap is_set (zero_word (state_at x)));
        refused = λ x. sym (ap (is_in 4) (zero_word (state_at x)));
        cancelled = λ x. sym (ap (is_in 2) (zero_word (state_at x)));
        fired = λ x. sym (ap (is_in 3) (zero_word (state_at x)));
        states = λ x. let z = zero_word (state_at x) in omega arith;
        moment_of = λ x. 0;
        moments = λ x ne. absurd (ne (zero_word (moment_at x)));
        set = λ x ne. absurd (ne (zero_word (state_at x)));
        each = λ j u there. subst (FitsTimers limits (λ j. get_or (replicate n 0) j 0) (λ x. 0)) (one_view v j u there) (fresh_fits limits limits limits.seats (λ j. get_or (replicate n 0) j 0) (λ x. 0) (λ z. refl));
      }
