-- Each step of a control keeps the rule of its table.
use Rattle.std.proofs.Common.{◌≡◌, ◌≢◌, ℕ, suc, ◌+◌, ◌-◌, ◌/◌, ◌%◌, ◌^◌, ◌<◌, ◌≤◌, eqb, List, [], ◌∷◌, ◌++◌, get_or, set, max, replicate, sym, refl, ap, ◌∙◌, subst, inl, inr, ⊎_elim, arith, length-set, get_or-set_same, get_or-set_other}
use Rattle.std.specs.Prelude.{Contains, Some, None, Option, sum_by}
use Rattle.std.proofs.lemmas.List.{set-get_or}
use Rattle.std.proofs.lemmas.List.Elements.{Contains-push, Contains-append_left, Contains-append_right}
use mathlib.Core.Option.{some, none}
use mathlib.Core.Logic.{dite}
use native.Mathlib.Decide.{ℕ_discrete, dec_le}
use lib.ListN.{get_elem?}
use Rattle.atomic_table.specs.Table.{State, Me, Act, Valid, carried_after, step, keeps, stepped, Allows, Splits, Joins, opening}
use Rattle.atomic_table.proofs.Lists.{at_longer, set_else, exchanged}
use prog.Atomic.{either}
use Rattle.bb_shared.specs.declared.control.stop.Stop.{Stop}
use Rattle.bb_shared.specs.declared.control.told.Told.{Told}
use Rattle.bb_shared.specs.Costs.{IsLower}
use Rattle.bb_shared.specs.Controls.{with_cost, with_opened, with_closed, with_load, or_else, controls_joined, cost_in, stop_word, stop_in, IsTellable, IsLeftOpen, IsStopped, IsStopSet, KnowsControl}
use Rattle.bb_shared.specs.ControlRules.{rank, word_of, parts_in, opened_in, closed_in, IsUnheard, FitsControl, TellsBest, TellsStop, IsControl, teller, gave_one, got_one, spent_told, opened_more, closed_one, saw_open, saw_best, told_cost, set_stop, saw_stop, learned}
use Rattle.pq_numbers.proofs.Sums.{sum_set, sum_kept, two-le-sum, sum_alone, sum_split, sum_joined, here, one_at, one_view, at_before, each_set, each_split, each_joined}
use Rattle.bb_shared.proofs.Costs.{lower_both, rank_lesser, small_lesser, small_cost, rank_cost, rank-le, cost_rank, low_rank, stop_word-positive, stop_in_word_of, one_stop, place_fits, none_or_some}

-- A view that changes goes on telling what it told
best_set : (l : List Told) (id : ℕ) (v w : Told) (best : ℕ) → get_elem? l id ≡ some v → w.own ≡ v.own → TellsBest l best → TellsBest (set l id w) best
best_set l id v w best at same t = dite (ℕ_discrete t.j id)
    (λ e. let is : t.view ≡ v = one_at l id t.view v (subst (λ (z : ℕ). get_elem? l z ≡ some t.view) e t.at) at in
    record { j = id; view = w; at = here l id v w at; is = t.is ∙ (ap (λ (u : Told). rank u.own) is ∙ ap rank (sym same)) })
    (λ ne. record { j = t.j; view = t.view; at = set_else l id t.j w ne ∙ t.at; is = t.is })

stop_set : (l : List Told) (id : ℕ) (v w : Told) (x : Stop) → get_elem? l id ≡ some v → (Contains v.stops x → Contains w.stops x) → TellsStop l x → TellsStop (set l id w) x
stop_set l id v w x at more t = dite (ℕ_discrete t.j id)
    (λ e. let is : t.view ≡ v = one_at l id t.view v (subst (λ (z : ℕ). get_elem? l z ≡ some t.view) e t.at) at in
    record { j = id; view = w; at = here l id v w at; has = more (subst (λ (u : Told). Contains u.stops x) is t.has) })
    (λ ne. record { j = t.j; view = t.view; at = set_else l id t.j w ne ∙ t.at; has = t.has })

nothing_in : {X : Type 0} (x : X) → Contains [] x → ⊥
nothing_in x c = let lt = c.1 in absurd (omega arith)

no_some : (x : Stop) → None ≡ Some x → ⊥
no_some x e = absurd (cc)

some_one : (x y : Stop) → Some x ≡ Some y → x ≡ y
some_one x y e = cc

stopped_by : (stops : List Stop) (first : Option Stop) → (first ≡ None → stops ≡ []) → ((x : Stop) → first ≡ Some x → Contains stops x) → IsStopped stops first
stopped_by stops None empty there = empty refl
stopped_by stops (Some x) empty there = there x refl

-- what two seats know to be the first is the first
first_of_two : (a b first : Option Stop) (known : Stop) → ((x : Stop) → a ≡ Some x → first ≡ Some x) → ((x : Stop) → b ≡ Some x → first ≡ Some x) → or_else a b ≡ Some known → first ≡ Some known
first_of_two None b first known fa fb e = fb known e
first_of_two (Some x) b first known fa fb e = fa known e

-- a seat that has told nothing
fresh_fits : (k seats parts best : ℕ) (first : Option Stop) → (0 < parts → seats ≡ k) → FitsControl k best first (teller seats parts)
fresh_fits k seats parts best first whole = record {
  idle = λ z. record { own = refl; stops = refl; opened = refl; closed = refl };
  whole = whole;
  small = tt;
  small_read = tt;
  own = omega arith;
  read = omega arith;
  first_is = λ x e. absurd (no_some x e);
  stops = λ e. refl;
}

-- what was added and taken away counts modulo 2^64
more : (word count closed opened closed' opened' : ℕ) → (word + closed) % 2 ^ 64 ≡ opened % 2 ^ 64 → closed' ≡ closed → opened' ≡ opened + count → ((word + count) % 2 ^ 64 + closed') % 2 ^ 64 ≡ opened' % 2 ^ 64
more word count closed opened closed' opened' e a b = omega arith

fewer : (word closed opened closed' opened' : ℕ) → (word + closed) % 2 ^ 64 ≡ opened % 2 ^ 64 → closed' ≡ closed + 1 → opened' ≡ opened → ((word + (2 ^ 64 - 1)) % 2 ^ 64 + closed') % 2 ^ 64 ≡ opened' % 2 ^ 64
fewer word closed opened closed' opened' e a b = omega arith

module _ {S : Type 0} (k : ℕ) where
  -- the parts of a seat into which all others were joined are all
  all_parts : (s : State S Told) → IsControl k s → (id : ℕ) (v : Told) → get_elem? s.views id ≡ some v → 0 < v.parts → v.parts ≡ v.seats → v.parts ≡ sum_by parts_in s.views
  all_parts s h id v at some_part whole = whole ∙ ((h.each id v at).whole some_part ∙ sym h.parts)

  -- so no other has told anything
  others_unheard : (s : State S Told) → IsControl k s → (id j : ℕ) (v u : Told) → get_elem? s.views id ≡ some v → get_elem? s.views j ≡ some u → v.parts ≡ sum_by parts_in s.views → j ≢ id → IsUnheard u
  others_unheard s h id j v u at there all ne = (h.each j u there).idle (let a = two-le-sum parts_in s.views id j v u at there ne in omega arith)

  best-le : (s : State S Told) → IsControl k s → get_or s.words 16 0 ≤ 67108864
  best-le s h = ⊎_elim (λ z. omega arith) (λ (t : TellsBest s.views (get_or s.words 16 0)). let a = t.is in let b = rank-le t.view.own in omega arith) h.best

  -- where all seats are joined, the best is what they told
  whole_best : (s : State S Told) (h : IsControl k s) (id : ℕ) (v : Told) → get_elem? s.views id ≡ some v → v.parts ≡ sum_by parts_in s.views → get_or s.words 16 0 ≡ rank v.own
  whole_best s h id v at all = let f = h.each id v at in let low = f.own in ⊎_elim
      (λ z. omega arith)
      (λ (t : TellsBest s.views (get_or s.words 16 0)). dite (ℕ_discrete t.j id)
      (λ e. let is : t.view ≡ v = one_at s.views id t.view v (subst (λ (z : ℕ). get_elem? s.views z ≡ some t.view) e t.at) at in t.is ∙ ap (λ (u : Told). rank u.own) is)
      (λ ne. let none = ap rank (others_unheard s h id t.j v t.view at t.at all ne).own in let a = t.is in omega arith))
      h.best

  -- and the open word is what they added less what they took away
  whole_open : (s : State S Told) (h : IsControl k s) (id : ℕ) (v : Told) → get_elem? s.views id ≡ some v → 0 < v.parts → IsLeftOpen v (get_or s.words 0 0)
  whole_open s h id v at some_part whole = let all = all_parts s h id v at some_part whole in
      let c = sum_alone closed_in parts_in s.views id v at all (λ j u there z. ((h.each j u there).idle z).closed) in
      let o = sum_alone opened_in parts_in s.views id v at all (λ j u there z. ((h.each j u there).idle z).opened) in
      ap (λ (z : ℕ). (get_or s.words 0 0 + z) % 2 ^ 64) (sym c) ∙ (h.counted ∙ ap (λ (z : ℕ). z % 2 ^ 64) o)

  pub knows : (s : State S Told) → IsControl k s → (id : ℕ) (v : Told) → get_elem? s.views id ≡ some v → 0 < v.parts → KnowsControl v
  knows s h id v at some_part = record {
    whole = λ whole. let f = h.each id v at in let is = whole_best s h id v at (all_parts s h id v at some_part whole) in
        subst (λ (z : Option ℕ). IsLower z v.read) (ap cost_in is ∙ cost_rank v.own f.small) (low_rank (get_or s.words 16 0) v.read (best-le s h) f.small_read f.read);
  }

  -- a step that changes no word, and of a view nothing but what it read
  reads : (s : State S Told) (h : IsControl k s) (i id : ℕ) (v w : Told) (c : List (ℕ × S)) → get_elem? s.views id ≡ some v → w.parts ≡ v.parts → w.opened ≡ v.opened → w.closed ≡ v.closed → w.own ≡ v.own → w.stops ≡ v.stops
      → FitsControl k (get_or s.words 16 0) h.first w → IsControl k (stepped s i (get_or s.words i 0) id c w keeps)
  reads s h i id v w c at parts opened closed own stops fits =
      let words : s.words ≡ set s.words i (get_or s.words i 0) = sym (set-get_or s.words i 0) in
      subst (λ (z : List ℕ). IsControl k (record { words = z; homes = s.homes; views = set s.views id w })) words (record {
        wide = h.wide;
        parts = sum_kept parts_in s.views id v w at parts ∙ h.parts;
        counted = ap (λ (z : ℕ). (get_or s.words 0 0 + z) % 2 ^ 64) (sum_kept closed_in s.views id v w at closed) ∙ (h.counted ∙ ap (λ (z : ℕ). z % 2 ^ 64) (sym (sum_kept opened_in s.views id v w at opened)));
        best = ⊎_elim (λ z. inl z) (λ t. inr (best_set s.views id v w (get_or s.words 16 0) at own t)) h.best;
        first = h.first;
        stop = h.stop;
        tellable = h.tellable;
        told = λ x is. stop_set s.views id v w x at (λ has. subst (λ (z : List Stop). Contains z x) (sym stops) has) (h.told x is);
        each = each_set (FitsControl k (get_or s.words 16 0) h.first) s.views id w fits h.each;
      })

  -- the open word
  counts : (s : State S Told) (h : IsControl k s) (n id : ℕ) (v w : Told) (c : List (ℕ × S)) → get_elem? s.views id ≡ some v → w.parts ≡ v.parts → w.own ≡ v.own → w.stops ≡ v.stops
      → (n + sum_by closed_in (set s.views id w)) % 2 ^ 64 ≡ sum_by opened_in (set s.views id w) % 2 ^ 64
      → FitsControl k (get_or s.words 16 0) h.first w → IsControl k (stepped s 0 n id c w keeps)
  counts s h n id v w c at parts own stops counted fits =
      let wide = h.wide in
      let now : get_or (set s.words 0 n) 0 0 ≡ n = get_or-set_same s.words 0 n 0 (omega arith) in
      let best : get_or (set s.words 0 n) 16 0 ≡ get_or s.words 16 0 = get_or-set_other s.words 0 16 n 0 (λ e. omega arith) in
      let stop : get_or (set s.words 0 n) 32 0 ≡ get_or s.words 32 0 = get_or-set_other s.words 0 32 n 0 (λ e. omega arith) in
      record {
        wide = length-set s.words 0 n ∙ h.wide;
        parts = sum_kept parts_in s.views id v w at parts ∙ h.parts;
        counted = ap (λ (z : ℕ). (z + sum_by closed_in (set s.views id w)) % 2 ^ 64) now ∙ counted;
        best = ⊎_elim (λ z. inl (best ∙ z)) (λ t. inr (subst (TellsBest (set s.views id w)) (sym best) (best_set s.views id v w (get_or s.words 16 0) at own t))) h.best;
        first = h.first;
        stop = stop ∙ h.stop;
        tellable = h.tellable;
        told = λ x is. stop_set s.views id v w x at (λ has. subst (λ (z : List Stop). Contains z x) (sym stops) has) (h.told x is);
        each = subst (λ (z : ℕ). (j : ℕ) (u : Told) → get_elem? (set s.views id w) j ≡ some u → FitsControl k z h.first u) (sym best) (each_set (FitsControl k (get_or s.words 16 0) h.first) s.views id w fits h.each);
      }

  pub opens_more : (slots id count : ℕ) (me : Me S Told) → 0 < me.0.parts → Allows (IsControl k) slots id me 0 (λ n. (n + count) % 2 ^ 64) (opened_more (step slots 0 count 0 none) me)
  opens_more slots id count me some_part s h hs at fits =
      let v = me.0 in let f = h.each id v at in let w : Told = with_opened v count in
      let n : ℕ = (get_or s.words 0 0 + count) % 2 ^ 64 in
      let a = sum_set opened_in s.views id v w at in let b = sum_kept closed_in s.views id v w at refl in let c = h.counted in (
        w,
        keeps,
        tt,
        counts s h n id v w me.1 at refl refl refl (more (get_or s.words 0 0) count (sum_by closed_in s.views) (sum_by opened_in s.views) (sum_by closed_in (set s.views id w)) (sum_by opened_in (set s.views id w)) c b (omega arith))
            (record { idle = λ z. absurd (omega arith); whole = f.whole; small = f.small; small_read = f.small_read; own = f.own; read = f.read; first_is = f.first_is; stops = f.stops }),
        refl,
      )

  pub closes_one : (slots id : ℕ) (me : Me S Told) → 0 < me.0.parts → Allows (IsControl k) slots id me 0 (λ n. (n + (2 ^ 64 - 1)) % 2 ^ 64) (closed_one (step slots 0 1 0 none) me)
  closes_one slots id me some_part s h hs at fits =
      let v = me.0 in let f = h.each id v at in let w : Told = with_closed v in
      let n : ℕ = (get_or s.words 0 0 + (2 ^ 64 - 1)) % 2 ^ 64 in let wide = h.wide in
      let a = sum_kept opened_in s.views id v w at refl in let b = sum_set closed_in s.views id v w at in let c = h.counted in
      let now : IsControl k (stepped s 0 n id me.1 w keeps) = counts s h n id v w me.1 at refl refl refl (fewer (get_or s.words 0 0) (sum_by closed_in s.views) (sum_by opened_in s.views) (sum_by closed_in (set s.views id w)) (sum_by opened_in (set s.views id w)) c (omega arith) a)
      (record { idle = λ z. absurd (omega arith); whole = f.whole; small = f.small; small_read = f.small_read; own = f.own; read = f.read; first_is = f.first_is; stops = f.stops }) in
      (w, keeps, tt, now, (refl, subst (IsLeftOpen w) (get_or-set_same s.words 0 n 0 (omega arith)) (whole_open (stepped s 0 n id me.1 w keeps) now id w (here s.views id v w at) some_part)))

  pub sees_open : (slots id : ℕ) (me : Me S Told) → 0 < me.0.parts → Allows (IsControl k) slots id me 0 (λ n. n) (saw_open (step slots 0 0 0 none) me)
  sees_open slots id me some_part s h hs at fits =
      let v = me.0 in let f = h.each id v at in let w : Told = with_load v (get_or s.words 0 0) in (
        w,
        keeps,
        tt,
        reads s h 0 id v w me.1 at refl refl refl refl refl
            (record { idle = λ z. absurd (omega arith); whole = f.whole; small = f.small; small_read = f.small_read; own = f.own; read = f.read; first_is = f.first_is; stops = f.stops }),
        (refl, whole_open s h id v at some_part),
      )

  pub sees_best : (slots id : ℕ) (me : Me S Told) → 0 < me.0.parts → Allows (IsControl k) slots id me 16 (λ n. n) (saw_best (step slots 16 0 0 none) me)
  sees_best slots id me some_part s h hs at fits =
      let v = me.0 in let f = h.each id v at in let best : ℕ = get_or s.words 16 0 in let within = best-le s h in
      let w : Told = record v { read = cost_in best; word = best; loads = v.loads + 1 } in (
        w,
        keeps,
        tt,
        reads s h 16 id v w me.1 at refl refl refl refl refl
            (record { idle = λ z. absurd (omega arith); whole = f.whole; small = f.small; small_read = small_cost best; own = f.own; read = rank_cost best; first_is = f.first_is; stops = f.stops }),
        (
          refl,
          record {
            word = best;
            is = refl;
            answer = refl;
            low = lower_both (cost_in best) v.own v.read (low_rank best v.own within f.small f.own) (low_rank best v.read within f.small_read f.read);
            whole = λ whole. ap cost_in (whole_best s h id v at (all_parts s h id v at some_part whole)) ∙ cost_rank v.own f.small;
          },
          within,
        ),
      )

  pub learns : (slots id : ℕ) (me : Me S Told) → 0 < me.0.parts → Allows (IsControl k) slots id me 16 (λ n. n) (learned (step slots 16 0 0 none) me)
  learns slots id me some_part s h hs at fits =
      (me.0, keeps, tt, reads s h 16 id me.0 me.0 me.1 at refl refl refl refl refl (h.each id me.0 at), (refl, knows s h id me.0 at some_part))

  -- the best word
  pub tells : (slots id rise : ℕ) (me : Me S Told) → 0 < me.0.parts → 0 < rise → rise ≤ 67108864 → Allows (IsControl k) slots id me 16 (λ n. max n rise) (told_cost (step slots 16 rise 0 none) me)
  tells slots id rise me some_part positive within s h hs at fits =
      let v = me.0 in let f = h.each id v at in let cost : ℕ = 67108864 - rise in let w : Told = with_cost v cost in
      let best : ℕ = get_or s.words 16 0 in let n : ℕ = max best rise in let wide = h.wide in
      let now : get_or (set s.words 16 n) 16 0 ≡ n = get_or-set_same s.words 16 n 0 (omega arith) in
      let opens : get_or (set s.words 16 n) 0 0 ≡ get_or s.words 0 0 = get_or-set_other s.words 16 0 n 0 (λ e. omega arith) in
      let stop : get_or (set s.words 16 n) 32 0 ≡ get_or s.words 32 0 = get_or-set_other s.words 16 32 n 0 (λ e. omega arith) in
      let own : rank w.own ≡ max (rank v.own) rise = rank_lesser v.own (Some cost) ∙ ap (max (rank v.own)) (let z : 67108864 - (67108864 - rise) ≡ rise = omega arith in z) in
      let low = f.own in
      let told_now : TellsBest (set s.views id w) n = dite (dec_le best rise)
      (λ le. record { j = id; view = w; at = here s.views id v w at; is = (let a = own in omega arith) })
      (λ no. ⊎_elim
      (λ z. absurd (omega arith))
      (λ (t : TellsBest s.views best). dite (ℕ_discrete t.j id)
      (λ e. let is : t.view ≡ v = one_at s.views id t.view v (subst (λ (z : ℕ). get_elem? s.views z ≡ some t.view) e t.at) at in
      let a = t.is in let b = ap (λ (u : Told). rank u.own) is in record { j = id; view = w; at = here s.views id v w at; is = (let a' = own in omega arith) })
      (λ ne. record { j = t.j; view = t.view; at = set_else s.views id t.j w ne ∙ t.at; is = (let a = t.is in omega arith) }))
      h.best) in (
        w,
        keeps,
        tt,
        record {
          wide = length-set s.words 16 n ∙ h.wide;
          parts = sum_kept parts_in s.views id v w at refl ∙ h.parts;
          counted = ap (λ (z : ℕ). (z + sum_by closed_in (set s.views id w)) % 2 ^ 64) opens ∙ (ap (λ (z : ℕ). (get_or s.words 0 0 + z) % 2 ^ 64) (sum_kept closed_in s.views id v w at refl) ∙ (h.counted ∙ ap (λ (z : ℕ). z % 2 ^ 64) (sym (sum_kept opened_in s.views id v w at refl))));
          best = inr (subst (TellsBest (set s.views id w)) (sym now) told_now);
          first = h.first;
          stop = stop ∙ h.stop;
          tellable = h.tellable;
          told = λ x is. stop_set s.views id v w x at (λ has. has) (h.told x is);
          each = subst (λ (z : ℕ). (j : ℕ) (u : Told) → get_elem? (set s.views id w) j ≡ some u → FitsControl k z h.first u) (sym now) (each_set (FitsControl k n h.first) s.views id w
              (record {
                idle = λ z. absurd (omega arith);
                whole = f.whole;
                small = small_lesser v.own (Some cost) f.small (let z : cost < 67108864 = omega arith in z);
                small_read = f.small_read;
                own = omega arith;
                read = (let a = f.read in omega arith);
                first_is = f.first_is;
                stops = f.stops;
              })
              (λ j u there. let g = h.each j u there in record { idle = g.idle; whole = g.whole; small = g.small; small_read = g.small_read; own = (let a = g.own in omega arith); read = (let a = g.read in omega arith); first_is = g.first_is; stops = g.stops }));
        },
        refl,
      )

  -- the first stop is told by the seat, where all seats are joined
  whole_stop : (s : State S Told) (h : IsControl k s) (id : ℕ) (v : Told) → get_elem? s.views id ≡ some v → v.parts ≡ sum_by parts_in s.views → (x : Stop) → h.first ≡ Some x → Contains v.stops x
  whole_stop s h id v at all x is = let t = h.told x is in dite (ℕ_discrete t.j id)
      (λ e. let same : t.view ≡ v = one_at s.views id t.view v (subst (λ (z : ℕ). get_elem? s.views z ≡ some t.view) e t.at) at in subst (λ (u : Told). Contains u.stops x) same t.has)
      (λ ne. absurd (nothing_in x (subst (λ (z : List Stop). Contains z x) (others_unheard s h id t.j v t.view at t.at all ne).stops t.has)))

  pub sees_stop : (slots id : ℕ) (me : Me S Told) → 0 < me.0.parts → Allows (IsControl k) slots id me 32 (λ n. n) (saw_stop (step slots 32 0 0 none) me)
  sees_stop slots id me some_part s h hs at fits =
      let v = me.0 in let f = h.each id v at in let word : ℕ = get_or s.words 32 0 in
      let is : stop_in word ≡ h.first = ap stop_in h.stop ∙ stop_in_word_of h.first in
      let w : Told = record v { first = stop_in word; word = word; loads = v.loads + 1 } in (
        w,
        keeps,
        tt,
        reads s h 32 id v w me.1 at refl refl refl refl refl
            (record { idle = λ z. absurd (omega arith); whole = f.whole; small = f.small; small_read = f.small_read; own = f.own; read = f.read; first_is = λ known e. sym is ∙ e; stops = f.stops }),
        (
          refl,
          record {
            word = word;
            is = refl;
            answer = refl;
            same = λ known e. is ∙ f.first_is known e;
            whole = λ whole. subst (IsStopped v.stops) (sym is) (stopped_by v.stops h.first f.stops (whole_stop s h id v at (all_parts s h id v at some_part whole)));
          },
          λ two. subst (λ (z : ℕ). z / 4 < 2 ^ 32) (sym h.stop) (place_fits h.first h.tellable (ap (λ (z : ℕ). z % 4) (sym h.stop) ∙ two)),
        ),
      )

  pub sets_stop : (slots id : ℕ) (me : Me S Told) (stop : Stop) → 0 < me.0.parts → IsTellable stop
      → Allows (IsControl k) slots id me 32 (λ n. either (eqb n 0) (stop_word stop) n) (set_stop (step slots 32 0 (stop_word stop) none) me)
  sets_stop slots id me stop some_part tellable s h hs at fits =
      let v = me.0 in let f = h.each id v at in let old : ℕ = get_or s.words 32 0 in let wide = h.wide in
      let F : ℕ → Type 0 = λ z. (w : Told) × (a : Act S) × Valid s.homes me.1 a × IsControl k (stepped s 32 z id me.1 w a) × set_stop (step slots 32 0 (stop_word stop) none) me old (w, carried_after me.1 a) in
      let set_as : (first : Stop) → Told = λ first. record v { stops = v.stops ++ stop ∷ []; first = Some first } in
      -- the rule with a first stop that is among the stops
      let ruled : (n : ℕ) (first : Stop) → n ≡ stop_word first → IsTellable first → TellsStop (set s.views id (set_as first)) first
      → ((j : ℕ) (u : Told) → get_elem? s.views j ≡ some u → (known : Stop) → u.first ≡ Some known → Some first ≡ Some known)
      → IsControl k (stepped s 32 n id me.1 (set_as first) keeps) = λ n first is fine told known.
      let w = set_as first in
      let opens : get_or (set s.words 32 n) 0 0 ≡ get_or s.words 0 0 = get_or-set_other s.words 32 0 n 0 (λ e. omega arith) in
      let best : get_or (set s.words 32 n) 16 0 ≡ get_or s.words 16 0 = get_or-set_other s.words 32 16 n 0 (λ e. omega arith) in
      record {
        wide = length-set s.words 32 n ∙ h.wide;
        parts = sum_kept parts_in s.views id v w at refl ∙ h.parts;
        counted = ap (λ (z : ℕ). (z + sum_by closed_in (set s.views id w)) % 2 ^ 64) opens ∙ (ap (λ (z : ℕ). (get_or s.words 0 0 + z) % 2 ^ 64) (sum_kept closed_in s.views id v w at refl) ∙ (h.counted ∙ ap (λ (z : ℕ). z % 2 ^ 64) (sym (sum_kept opened_in s.views id v w at refl))));
        best = ⊎_elim (λ z. inl (best ∙ z)) (λ t. inr (subst (TellsBest (set s.views id w)) (sym best) (best_set s.views id v w (get_or s.words 16 0) at refl t))) h.best;
        first = Some first;
        stop = get_or-set_same s.words 32 n 0 (omega arith) ∙ is;
        tellable = λ x e. subst IsTellable (some_one first x e) fine;
        told = λ x e. subst (TellsStop (set s.views id w)) (some_one first x e) told;
        each = subst (λ (z : ℕ). (j : ℕ) (u : Told) → get_elem? (set s.views id w) j ≡ some u → FitsControl k z (Some first) u) (sym best) (each_set (FitsControl k (get_or s.words 16 0) (Some first)) s.views id w
            (record { idle = λ z. absurd (omega arith); whole = f.whole; small = f.small; small_read = f.small_read; own = f.own; read = f.read; first_is = λ x e. e; stops = λ no. absurd (no_some first (sym no)) })
            (λ j u there. let g = h.each j u there in record { idle = g.idle; whole = g.whole; small = g.small; small_read = g.small_read; own = g.own; read = g.read; first_is = known j u there; stops = λ no. absurd (no_some first (sym no)) }));
      } in
      exchanged old 0 (stop_word stop) F
      (λ hit.
      let none_yet : h.first ≡ None = ⊎_elim (λ e. e) (λ (t : (x : Stop) × (h.first ≡ Some x)). let a = h.stop in let b = ap word_of t.1 in let c = stop_word-positive t.0 in absurd (omega arith)) (none_or_some h.first) in (
        set_as stop,
        keeps,
        tt,
        ruled (stop_word stop) stop refl tellable (record { j = id; view = set_as stop; at = here s.views id v (set_as stop) at; has = Contains-push v.stops stop })
            (λ j u there known e. absurd (no_some known (sym none_yet ∙ (h.each j u there).first_is known e))),
        λ stop' word. let e : stop ≡ stop' = one_stop stop stop' word in subst (λ (z : Stop). (me.1 ≡ me.1) × IsStopSet v z (set_as stop)) e
            (refl, record { first = stop; is = refl; same = λ known e. absurd (no_some known (sym none_yet ∙ f.first_is known e)); whole = λ whole. Contains-push v.stops stop; alone = λ whole none. refl }),
      ))
      (λ miss.
      let some_yet = ⊎_elim (λ e. absurd (miss (h.stop ∙ ap word_of e))) (λ (t : (x : Stop) × (h.first ≡ Some x)). t) (none_or_some h.first) in
      let first : Stop = some_yet.0 in let is : h.first ≡ Some first = some_yet.1 in (
        set_as first,
        keeps,
        tt,
        ruled old first (h.stop ∙ ap word_of is) (h.tellable first is) (stop_set s.views id v (set_as first) first at (λ has. Contains-append_left v.stops (stop ∷ []) first has) (h.told first is))
            (λ j u there known e. sym is ∙ (h.each j u there).first_is known e),
        λ stop' word. let e : stop ≡ stop' = one_stop stop stop' word in subst (λ (z : Stop). (me.1 ≡ me.1) × IsStopSet v z (set_as first)) e (
          refl,
          record {
            first = first;
            is = refl;
            same = λ known e. some_one first known (sym is ∙ f.first_is known e);
            whole = λ whole. Contains-append_left v.stops (stop ∷ []) first (whole_stop s h id v at (all_parts s h id v at some_part whole) first is);
            alone = λ whole none. absurd (nothing_in first (subst (λ (z : List Stop). Contains z first) none (whole_stop s h id v at (all_parts s h id v at some_part whole) first is)));
          },
        ),
      ))

  -- One part goes to a new seat
  pub deals : (id seats parts : ℕ) → Splits (IsControl {S = S} k) id (teller seats (suc parts)) (gave_one (teller seats (suc parts))) (got_one (teller seats (suc parts)))
  deals id seats parts s h at =
      let v : Told = teller seats (suc parts) in let l : Told = gave_one v in let r : Told = got_one v in
      let f = h.each id v at in
      let split : (g : Told → ℕ) → g l + g r ≡ g v → sum_by g (set s.views id l ++ r ∷ []) ≡ sum_by g s.views = λ g. sum_split g s.views id v l r at in
      record {
        wide = h.wide;
        parts = split parts_in (omega arith) ∙ h.parts;
        counted = ap (λ (z : ℕ). (get_or s.words 0 0 + z) % 2 ^ 64) (split closed_in refl) ∙ (h.counted ∙ ap (λ (z : ℕ). z % 2 ^ 64) (sym (split opened_in refl)));
        best = ⊎_elim (λ z. inl z) (λ t. inr (let t' = best_set s.views id v l (get_or s.words 16 0) at refl t in record { j = t'.j; view = t'.view; at = at_longer (set s.views id l) (r ∷ []) t'.j t'.view t'.at; is = t'.is })) h.best;
        first = h.first;
        stop = h.stop;
        tellable = h.tellable;
        told = λ x is. let t' = stop_set s.views id v l x at (λ has. has) (h.told x is) in record { j = t'.j; view = t'.view; at = at_longer (set s.views id l) (r ∷ []) t'.j t'.view t'.at; has = t'.has };
        each = each_split (FitsControl k (get_or s.words 16 0) h.first) s.views id l r
            (fresh_fits k seats (suc parts - 1) (get_or s.words 16 0) h.first (λ z. f.whole (omega arith)))
            (fresh_fits k seats 1 (get_or s.words 16 0) h.first (λ z. f.whole (omega arith)))
            h.each;
      }

  -- A seat takes in another, which is spent
  pub joins : (id other : ℕ) (v w : Told) → 0 < v.parts → Joins (IsControl {S = S} k) id v other w (controls_joined v w) spent_told
  joins id other v w some_part s h at apart to =
      let b : Told = controls_joined v w in let spent : Told = spent_told in
      let before = at_before s.views id other b w apart to in
      let f = h.each id v at in let g = h.each other w before in
      let both : (m : Told → ℕ) → m b ≡ m v + m w → m spent ≡ 0 → sum_by m (set (set s.views id b) other spent) ≡ sum_by m s.views = λ m. sum_joined m s.views id other v w b spent at to in
      let at_b : get_elem? (set (set s.views id b) other spent) id ≡ some b = set_else (set s.views id b) other id spent (λ e. apart (sym e)) ∙ here s.views id v b at in
      let else_at : (j : ℕ) (u : Told) → get_elem? s.views j ≡ some u → j ≢ id → j ≢ other → get_elem? (set (set s.views id b) other spent) j ≡ some u = λ j u there ne ne'. set_else (set s.views id b) other j spent ne' ∙ (set_else s.views id j b ne ∙ there) in
      let own : rank b.own ≡ max (rank v.own) (rank w.own) = rank_lesser v.own w.own in
      let read : rank b.read ≡ max (rank v.read) (rank w.read) = rank_lesser v.read w.read in
      let f1 = f.own in let f2 = g.own in let f3 = f.read in let f4 = g.read in
      record {
        wide = h.wide;
        parts = both parts_in refl refl ∙ h.parts;
        counted = ap (λ (z : ℕ). (get_or s.words 0 0 + z) % 2 ^ 64) (both closed_in refl refl) ∙ (h.counted ∙ ap (λ (z : ℕ). z % 2 ^ 64) (sym (both opened_in refl refl)));
        best = ⊎_elim (λ z. inl z) (λ (t : TellsBest s.views (get_or s.words 16 0)). inr (dite (ℕ_discrete t.j id)
            (λ e. let is : t.view ≡ v = one_at s.views id t.view v (subst (λ (z : ℕ). get_elem? s.views z ≡ some t.view) e t.at) at in let a = t.is in let c = ap (λ (u : Told). rank u.own) is in record { j = id; view = b; at = at_b; is = omega arith })
            (λ ne. dite (ℕ_discrete t.j other)
            (λ e. let is : t.view ≡ w = one_at s.views other t.view w (subst (λ (z : ℕ). get_elem? s.views z ≡ some t.view) e t.at) before in let a = t.is in let c = ap (λ (u : Told). rank u.own) is in record { j = id; view = b; at = at_b; is = omega arith })
            (λ ne'. record { j = t.j; view = t.view; at = else_at t.j t.view t.at ne ne'; is = t.is })))) h.best;
        first = h.first;
        stop = h.stop;
        tellable = h.tellable;
        told = λ x e'. let t = h.told x e' in dite (ℕ_discrete t.j id)
            (λ e. let is : t.view ≡ v = one_at s.views id t.view v (subst (λ (z : ℕ). get_elem? s.views z ≡ some t.view) e t.at) at in record { j = id; view = b; at = at_b; has = Contains-append_left v.stops w.stops x (subst (λ (u : Told). Contains u.stops x) is t.has) })
            (λ ne. dite (ℕ_discrete t.j other)
            (λ e. let is : t.view ≡ w = one_at s.views other t.view w (subst (λ (z : ℕ). get_elem? s.views z ≡ some t.view) e t.at) before in record { j = id; view = b; at = at_b; has = Contains-append_right v.stops w.stops x (subst (λ (u : Told). Contains u.stops x) is t.has) })
            (λ ne'. record { j = t.j; view = t.view; at = else_at t.j t.view t.at ne ne'; has = t.has }));
        each = each_joined (FitsControl k (get_or s.words 16 0) h.first) s.views id other b spent
            (record {
              idle = λ z. absurd (omega arith);
              whole = λ z. f.whole some_part;
              small = small_lesser v.own w.own f.small g.small;
              small_read = small_lesser v.read w.read f.small_read g.small_read;
              own = omega arith;
              read = omega arith;
              first_is = λ known e. first_of_two v.first w.first h.first known f.first_is g.first_is e;
              stops = λ e. ap (λ (z : List Stop). z ++ w.stops) (f.stops e) ∙ g.stops e;
            })
            (fresh_fits k 0 0 (get_or s.words 16 0) h.first (λ z. absurd (omega arith)))
            h.each;
      }

  -- The rule holds where nothing is told and one seat has all parts
  pub opens : IsControl {S = S} k (opening (replicate 33 0) [] (teller k k))
  opens = record {
    wide = refl;
    parts = omega arith;
    counted = refl;
    best = inl refl;
    first = None;
    stop = refl;
    tellable = λ x e. absurd (no_some x e);
    told = λ x e. absurd (no_some x e);
    each = λ j u there. subst (FitsControl k 0 None) (one_view (teller k k) j u there) (fresh_fits k k k 0 None (λ z. refl));
  }
