-- Each step of a store keeps the rule of its table.
use Rattle.std.proofs.Common.{◌≡◌, ◌≢◌, ℕ, zero, suc, ◌+◌, ◌*◌, ◌%◌, ◌^◌, ◌<◌, ◌≤◌, Bool, not, eqb, ltb, leb, cond, List, [], ◌∷◌, length, get_or, set, sym, refl, ap, ◌∙◌, subst, ⊎_elim, arith, eq-eqb, ne_eqb, length-set, get_or-set_same, get_or-set_other, mod-eq_of_lt}
use Rattle.std.specs.Prelude.{Contains, Some, None, Option, sum_by}
use Rattle.std.proofs.lemmas.List.{set-get_or}
use Rattle.std.proofs.lemmas.List.Elements.{Contains-push_cases}
use Rattle.std.proofs.lemmas.List.Sums.{sum_by_push}
use Rattle.std.proofs.lemmas.Bool.Decides.{leb_tells}
use mathlib.Core.Option.{some, none}
use mathlib.Core.Logic.{dite}
use native.Mathlib.Decide.{ℕ_discrete}
use lib.ListN.{get_elem?}
use Rattle.atomic_table.specs.Table.{State, Me, Act, Valid, carried_after, step, keeps, takes, gives, stepped, Allows}
use Rattle.atomic_table.proofs.Lists.{set_here, set_else, set_again, exchanged}
use prog.Atomic.{either}
use Rattle.pq_numbers.specs.declared.draws.Draw.{Draw}
use Rattle.pq_numbers.specs.Draws.{draw_of}
use Rattle.pq_numbers.specs.Tables.{AreDrawn}
use Rattle.pq_numbers.proofs.Sums.{sum_set, sum_kept, one-le-sum, sum-le, sum-le_at, some_in_sum, here, each_set}
use Rattle.pq_numbers.proofs.Counts.{one_if, one_if-le, same_one, other_none, times-push, times-contains, contains-times, none-times, length-le_different, times_drawn-push, times_drawn-contains, none_counted}
use Rattle.pq_numbers.proofs.Tables as tables
use Rattle.bb_shared.specs.declared.store.stored.Numbered.{Numbered}
use Rattle.bb_shared.specs.declared.store.stored.StoreView.{StoreView}
use Rattle.bb_shared.specs.Stores.{numbered, number_of, HasNoOver, IsFree, with_draw, times, KnowsStore}
use Rattle.bb_shared.specs.StoreRules.{is_putting, is_put, is_taken, times_in, store_kind, over_by, times_over, drawn_by, putting_by, put_by, taken_by, FitsStore, IsStore, with_kept, with_putting, having_put, having_tried, having_taken, drew, began_put, ended_put, tried_take, ended_take, learned}
use Rattle.bb_shared.proofs.StoreSeats.{first_held}

is_put-le : (n : ℕ) → is_put n ≤ 1
is_put-le zero = omega arith
is_put-le (suc zero) = omega arith
is_put-le (suc (suc n)) = omega arith

is_taken-le : (n : ℕ) → is_taken n ≤ 1
is_taken-le zero = omega arith
is_taken-le (suc zero) = omega arith
is_taken-le (suc (suc zero)) = omega arith
is_taken-le (suc (suc (suc n))) = omega arith

-- a node that was taken was put
taken_put : (n : ℕ) → 0 < is_taken n → is_put n ≡ 1
taken_put zero h = absurd (omega arith)
taken_put (suc zero) h = absurd (omega arith)
taken_put (suc (suc n)) h = refl

-- and the word is past the taking for good
taken_done : (n : ℕ) → 0 < is_taken n → (is_putting n ≡ 0) × (is_put n ≡ 1) × (is_taken n ≡ 1)
taken_done zero h = absurd (omega arith)
taken_done (suc zero) h = absurd (omega arith)
taken_done (suc (suc zero)) h = absurd (omega arith)
taken_done (suc (suc (suc n))) h = (refl, refl, refl)

none_word : (n : ℕ) → is_putting n ≡ 0 → is_put n ≡ 0 → n ≡ 0
none_word zero a b = refl
none_word (suc zero) a b = absurd (omega arith)
none_word (suc (suc n)) a b = absurd (omega arith)

putting_word : (n : ℕ) → 0 < is_putting n → n ≡ 1
putting_word zero h = absurd (omega arith)
putting_word (suc zero) h = refl
putting_word (suc (suc n)) h = absurd (omega arith)

-- past the end there is nothing
get_or-past : (l : List ℕ) (i : ℕ) → length l ≤ i → get_or l i 0 ≡ 0
get_or-past [] i h = refl
get_or-past (x ∷ xs) zero h = absurd (omega arith)
get_or-past (x ∷ xs) (suc i) h = get_or-past xs i (omega arith)

next : (x : ℕ) → suc x ≡ x + 1
next x = omega arith

-- each number has a word of its own, and none has the made word
own_word : (x y : ℕ) → suc y ≡ suc x → y ≡ x
own_word x y e = omega arith

not_made : (y : ℕ) → suc y ≢ 0
not_made y e = omega arith

module _ {N : Type 0} (k : ℕ) where
  same_node : (o : Option N) (p q : Numbered N) → p.number ≡ q.number → o ≡ Some p.node → o ≡ Some q.node → p ≡ q
  same_node o p q n a b = let m : p.node ≡ q.node = cc in λ i. numbered (n i) (m i)

  -- what a seat knows wherever the rule holds
  pub knows : (s : State (Option N) (StoreView N)) → IsStore k s → (id : ℕ) (v : StoreView N) → get_elem? s.views id ≡ some v → 0 < v.kept.parts → KnowsStore (length s.homes) v.kept
  knows s h id v at some_part =
      let puts_once : (x : ℕ) → times x v.kept.puts ≤ 1 = λ x. let a = one-le-sum (put_by x) s.views id v at in let b = h.put x in let c = is_put-le (get_or s.words (suc x) 0) in omega arith in
      let takes_once : (x : ℕ) → times x v.kept.takes ≤ 1 = λ x. let a = one-le-sum (taken_by x) s.views id v at in let b = h.taken x in let c = is_taken-le (get_or s.words (suc x) 0) in omega arith in
      let past : (x : ℕ) → length s.homes ≤ x → get_or s.words (suc x) 0 ≡ 0 = λ x le. get_or-past s.words (suc x) (let w = h.wide in omega arith) in
      let f = h.each id v at in
      let all : v.kept.parts ≡ v.kept.seats → v.kept.parts ≡ k = λ whole. whole ∙ f.whole some_part in
      let node : (p : Numbered N) → Contains v.kept.puts p → h.node_of p.number ≡ Some p.node = f.puts in
      record {
        puts_once = puts_once;
        takes_once = takes_once;
        few_puts = length-le_different number_of v.kept.puts (length s.homes) puts_once (λ x le. let a = one-le-sum (put_by x) s.views id v at in let b = h.put x in let c = ap is_put (past x le) in omega arith);
        few_takes = length-le_different number_of v.kept.takes (length s.homes) takes_once (λ x le. let a = one-le-sum (taken_by x) s.views id v at in let b = h.taken x in let c = ap is_taken (past x le) in omega arith);
        matched = λ whole. record {
          from_puts = λ t c.
              let a = times-contains number_of v.kept.takes t c in let b = one-le-sum (taken_by t.number) s.views id v at in let d = h.taken t.number in
              let e = taken_put (get_or s.words (suc t.number) 0) (omega arith) in let g = h.put t.number in
              let alone = tables.alone store_kind k (get_or s.words 0 0) s.views h.numbers id v at (put_by t.number) (all whole) (λ j u there z. ap (times t.number) ((h.each j u there).idle z).puts) in
              let p = contains-times number_of t.number v.kept.puts (omega arith) in
              subst (Contains v.kept.puts) (same_node (h.node_of t.number) p.entry t p.is (subst (λ (n : ℕ). h.node_of n ≡ Some p.entry.node) p.is (node p.entry p.within)) (f.takes t c)) p.within;
          put_once = λ p q a b same. same_node (h.node_of p.number) p q same (node p a) (subst (λ (n : ℕ). h.node_of n ≡ Some q.node) (sym same) (node q b));
        };
        tiled = λ whole. tables.tiled store_kind k (get_or s.words 0 0) s.views h.numbers id v at (all whole);
      }

  put_low : (s : State (Option N) (StoreView N)) → IsStore k s → (id : ℕ) (v : StoreView N) → get_elem? s.views id ≡ some v → (p : Numbered N) → Contains v.kept.puts p → p.number < get_or s.words 0 0
  put_low s h id v at p c = tables.low store_kind k (get_or s.words 0 0) s.views h.numbers id v at p.number (let a = times-contains number_of v.kept.puts p c in let b = (h.each id v at).own p.number in omega arith)

  -- a step that leaves a word and a view as they were leaves all as it was
  pub unchanged : (s : State (Option N) (StoreView N)) (i id : ℕ) (v : StoreView N) (c : List (ℕ × Option N)) → get_elem? s.views id ≡ some v → IsStore k s → IsStore k (stepped s i (get_or s.words i 0) id c v keeps)
  unchanged s i id v c at h = let a : s.words ≡ set s.words i (get_or s.words i 0) = sym (set-get_or s.words i 0) in let b : s.views ≡ set s.views id v = sym (set_again s.views id v at) in
      subst (IsStore k) (λ j. record { words = a j; homes = s.homes; views = b j }) h

  -- and so does an attempt that found another word than full
  tries : (s : State (Option N) (StoreView N)) (id x word : ℕ) (v : StoreView N) (c : List (ℕ × Option N)) → get_elem? s.views id ≡ some v → IsStore k s
      → IsStore k (stepped s (suc x) (get_or s.words (suc x) 0) id c (having_tried v x word) keeps)
  tries s id x word v c at h =
      let words : s.words ≡ set s.words (suc x) (get_or s.words (suc x) 0) = sym (set-get_or s.words (suc x) 0) in
      let w : StoreView N = having_tried v x word in let f = h.each id v at in
      subst (λ (ws : List ℕ). IsStore k (record { words = ws; homes = s.homes; views = set s.views id w })) words (record {
        few = h.few;
        wide = h.wide;
        numbers = tables.kept store_kind k (get_or s.words 0 0) s.views h.numbers id v at w refl refl;
        bounded = let a = sum_kept over_by s.views id v w at refl in let b = h.bounded in omega arith;
        putting = λ y. sum_kept (putting_by y) s.views id v w at refl ∙ h.putting y;
        put = λ y. sum_kept (put_by y) s.views id v w at refl ∙ h.put y;
        taken = λ y. sum_kept (taken_by y) s.views id v w at refl ∙ h.taken y;
        node_of = h.node_of;
        each = each_set (FitsStore k (get_or s.words 0 0) h.node_of) s.views id w
            (record {
              idle = λ z. let i = f.idle z in record { puts = i.puts; takes = i.takes; putting = i.putting };
              whole = f.whole;
              front = f.front;
              own = f.own;
              over = f.over;
              puts = f.puts;
              takes = f.takes;
            })
            h.each;
        empty = h.empty;
        full = h.full;
      })

  -- Drawing adds to the made word and to the draws of the seat
  pub draws : (slots id : ℕ) (me : Me (Option N) (StoreView N)) (count limit : ℕ) → 0 < me.0.kept.parts → HasNoOver me.0.kept → count ≤ 100 → limit < 2 ^ 32
      → Allows (IsStore k) slots id me 0 (λ x. (x + count) % 2 ^ 64) (λ x w. drew (step slots 0 count 0 none) me x w limit)
  draws slots id me count limit some_part under small low s h hs at fits =
      let v = me.0 in let made : ℕ = get_or s.words 0 0 in let within : Bool = leb (made + count) limit in
      let d : Draw = draw_of made count within in
      let w : StoreView N = with_kept v (with_draw v.kept d) in
      let f = h.each id v at in
      let no_over : over_by v ≡ 0 = none_counted (λ (e : Draw). not e.within) v.kept.draws (λ e c. ap not (under e c)) in
      let overs = sum-le over_by store_kind.parts s.views (λ j u a. (h.each j u a).over) in
      let ps = h.numbers.parts in let few = h.few in let wide = h.wide in
      let bound : made ≤ 2 ^ 32 + 100 * sum_by over_by s.views = h.bounded in
      let total : made + count < 2 ^ 33 = omega arith in
      let n : (made + count) % 2 ^ 64 ≡ made + count = mod-eq_of_lt (omega arith) in
      let word : get_or (set s.words 0 ((made + count) % 2 ^ 64)) 0 0 ≡ made + count = get_or-set_same s.words 0 ((made + count) % 2 ^ 64) 0 (omega arith) ∙ n in
      let other : (x : ℕ) → get_or (set s.words 0 ((made + count) % 2 ^ 64)) (suc x) 0 ≡ get_or s.words (suc x) 0 = λ x. get_or-set_other s.words 0 (suc x) ((made + count) % 2 ^ 64) 0 (λ e. omega arith) in
      let over : over_by w ≡ over_by v + one_if (not within) = sum_by_push (λ (e : Draw). one_if (not e.within)) v.kept.draws d in
      let now : IsStore k (stepped s 0 ((made + count) % 2 ^ 64) id me.1 w keeps) = record {
        few = h.few;
        wide = length-set s.words 0 ((made + count) % 2 ^ 64) ∙ h.wide;
        numbers = subst (λ z. AreDrawn store_kind k z (set s.views id w)) (sym word) (tables.drew store_kind k made s.views h.numbers id v at w count within some_part refl refl);
        bounded = subst (λ z. z ≤ 2 ^ 32 + 100 * sum_by over_by (set s.views id w)) (sym word) (let a = sum_set over_by s.views id v w at in ⊎_elim
            (λ t. let b = t.1 in omega arith)
            (λ t. let b : one_if (not within) ≡ 1 = ap (λ z. one_if (not z)) t.0 in omega arith)
            (leb_tells (made + count) limit));
        putting = tables.told_else putting_by is_putting (λ y. suc y) s.words s.views h.putting id v w at 0 ((made + count) % 2 ^ 64) not_made (λ y. refl);
        put = tables.told_else put_by is_put (λ y. suc y) s.words s.views h.put id v w at 0 ((made + count) % 2 ^ 64) not_made (λ y. refl);
        taken = tables.told_else taken_by is_taken (λ y. suc y) s.words s.views h.taken id v w at 0 ((made + count) % 2 ^ 64) not_made (λ y. refl);
        node_of = h.node_of;
        each = subst (λ z. (j : ℕ) (u : StoreView N) → get_elem? (set s.views id w) j ≡ some u → FitsStore k z h.node_of u) (sym word) (each_set (FitsStore k (made + count) h.node_of) s.views id w
            (record {
              idle = λ z. absurd (omega arith);
              whole = f.whole;
              front = omega arith;
              own = λ x. let a = f.own x in let b = times_drawn-push x v.kept.draws d in omega arith;
              over = let b = one_if-le (not within) in omega arith;
              puts = f.puts;
              takes = f.takes;
            })
            (λ j u there. let g = h.each j u there in record { idle = g.idle; whole = g.whole; front = (let a = g.front in omega arith); own = g.own; over = g.over; puts = g.puts; takes = g.takes }));
        empty = λ x lt is. h.empty x lt (sym (other x) ∙ is);
        full = λ x is. h.full x (sym (other x) ∙ is);
      } in
      (w, keeps, tt, now, (refl, f.front, put_low s h id v at, total, subst (λ z. KnowsStore z w.kept) hs (knows (stepped s 0 ((made + count) % 2 ^ 64) id me.1 w keeps) now id w (here s.views id v w at) some_part)))

  -- What a step on the word of a number keeps, where the seat counts this number as the word says, and others as before
  pub moved : (s : State (Option N) (StoreView N)) (h : IsStore k s) (id x n : ℕ) (v w : StoreView N) (home : mathlib.Core.Option.Option (Option N)) (node_of : ℕ → Option N) → get_elem? s.views id ≡ some v
      → x < length s.homes → w.kept.parts ≡ v.kept.parts → w.kept.draws ≡ v.kept.draws
      → is_putting n + putting_by x v ≡ is_putting (get_or s.words (suc x) 0) + putting_by x w
      → is_put n + put_by x v ≡ is_put (get_or s.words (suc x) 0) + put_by x w
      → is_taken n + taken_by x v ≡ is_taken (get_or s.words (suc x) 0) + taken_by x w
      → ((y : ℕ) → y ≢ x → (putting_by y w ≡ putting_by y v) × (put_by y w ≡ put_by y v) × (taken_by y w ≡ taken_by y v) × (node_of y ≡ h.node_of y))
      → FitsStore k (get_or s.words 0 0) node_of w
      → ((j : ℕ) (u : StoreView N) → get_elem? s.views j ≡ some u → FitsStore k (get_or s.words 0 0) node_of u)
      → (n ≡ 0 → home ≡ some None) → (n ≡ 2 → home ≡ some (node_of x))
      → IsStore k (record { words = set s.words (suc x) n; homes = set s.homes x home; views = set s.views id w })
  moved s h id x n v w home node_of at low parts draws putting put taken else fits others empty full =
      let wide = h.wide in
      let made : get_or (set s.words (suc x) n) 0 0 ≡ get_or s.words 0 0 = get_or-set_other s.words (suc x) 0 n 0 (λ e. omega arith) in
      let own : get_or (set s.words (suc x) n) (suc x) 0 ≡ n = get_or-set_same s.words (suc x) n 0 (omega arith) in
      let word_else : (y : ℕ) → y ≢ x → get_or (set s.words (suc x) n) (suc y) 0 ≡ get_or s.words (suc y) 0 = λ y ne. get_or-set_other s.words (suc x) (suc y) n 0 (λ e. ne (omega arith)) in
      let size : length (set s.homes x home) ≡ length s.homes = length-set s.homes x home in
      record {
        few = h.few;
        wide = length-set s.words (suc x) n ∙ (h.wide ∙ ap suc (sym size));
        numbers = subst (λ z. AreDrawn store_kind k z (set s.views id w)) (sym made) (tables.kept store_kind k (get_or s.words 0 0) s.views h.numbers id v at w parts draws);
        bounded = let a = sum_kept over_by s.views id v w at (ap times_over draws) in let b = h.bounded in subst (λ z. z ≤ 2 ^ 32 + 100 * sum_by over_by (set s.views id w)) (sym made) (omega arith);
        putting = tables.told putting_by is_putting (λ y. suc y) s.words s.views h.putting id v w at x n (own_word x) (omega arith) putting (λ y ne. (else y ne).0);
        put = tables.told put_by is_put (λ y. suc y) s.words s.views h.put id v w at x n (own_word x) (omega arith) put (λ y ne. (else y ne).1);
        taken = tables.told taken_by is_taken (λ y. suc y) s.words s.views h.taken id v w at x n (own_word x) (omega arith) taken (λ y ne. (else y ne).2);
        node_of = node_of;
        each = subst (λ z. (j : ℕ) (u : StoreView N) → get_elem? (set s.views id w) j ≡ some u → FitsStore k z node_of u) (sym made) (each_set (FitsStore k (get_or s.words 0 0) node_of) s.views id w fits others);
        empty = λ y lt is. dite (ℕ_discrete y x)
            (λ e. subst (λ z. get_elem? (set s.homes x home) z ≡ some (some None)) (sym e) (set_here s.homes x home low ∙ ap some (empty (sym own ∙ subst (λ z. get_or (set s.words (suc x) n) (suc z) 0 ≡ 0) e is))))
            (λ ne. set_else s.homes x y home ne ∙ h.empty y (omega arith) (sym (word_else y ne) ∙ is));
        full = λ y is. dite (ℕ_discrete y x)
            (λ e. subst (λ z. get_elem? (set s.homes x home) z ≡ some (some (node_of z))) (sym e) (set_here s.homes x home low ∙ ap some (full (sym own ∙ subst (λ z. get_or (set s.words (suc x) n) (suc z) 0 ≡ 2) e is))))
            (λ ne. set_else s.homes x y home ne ∙ (h.full y (sym (word_else y ne) ∙ is) ∙ ap (λ z. some (some z)) (sym (else y ne).3)));
      }

  -- A number that the seat drew and put nothing under has the word none
  free_word : (s : State (Option N) (StoreView N)) → IsStore k s → (id x : ℕ) (v : StoreView N) → get_elem? s.views id ≡ some v → v.putting ≡ None → IsFree v.kept x → get_or s.words (suc x) 0 ≡ 0
  free_word s h id x v at idle free =
      let some_draw = times_drawn-contains x v.kept.draws free.draw free.drawn free.from free.to in
      let none_put = none-times number_of x v.kept.puts free.unput in
      let not_now : putting_by x v ≡ 0 = ap (times_in x) idle in
      let a = h.numbers.drawn x in let a' = one_if-le (ltb x (get_or s.words 0 0)) in
      let b = sum-le_at (put_by x) (drawn_by x) s.views id v at (λ j u there. let o = (h.each j u there).own x in omega arith) in
      let c = sum-le_at (putting_by x) (drawn_by x) s.views id v at (λ j u there. let o = (h.each j u there).own x in omega arith) in
      let d = h.put x in let e = h.putting x in
      none_word (get_or s.words (suc x) 0) (omega arith) (omega arith)

  begins_put-suc : (slots id x : ℕ) (me : Me (Option N) (StoreView N)) → 0 < me.0.kept.parts → me.0.putting ≡ None → x < slots → IsFree me.0.kept x
      → Allows (IsStore k) slots id me (suc x) (λ n. either (eqb n 0) 1 n) (began_put (step slots (suc x) 0 1 none) me)
  begins_put-suc slots id x me some_part idle within free s h hs at fits =
      let v = me.0 in let f = h.each id v at in let old : ℕ = get_or s.words (suc x) 0 in
      let zero_word : old ≡ 0 = free_word s h id x v at idle free in
      let w : StoreView N = with_putting v x in
      let quiet : (y : ℕ) → putting_by y v ≡ 0 = λ y. ap (times_in y) idle in
      let mine = same_one x x refl in
      let new : IsStore k (stepped s (suc x) 1 id me.1 w (takes x None)) = moved s h id x 1 v w none h.node_of at (omega arith) refl refl
      (let a = ap is_putting zero_word in let b = quiet x in omega arith)
      (let a = ap is_put zero_word in omega arith)
      (let a = ap is_taken zero_word in omega arith)
      (λ y ne. (let a = quiet y in let b = other_none x y (λ z. ne (sym z)) in omega arith, refl, refl, refl))
      (record {
        idle = λ z. absurd (omega arith);
        whole = f.whole;
        front = f.front;
        own = λ y. dite (ℕ_discrete y x)
            (λ e. subst (λ z. put_by z w + putting_by z w ≤ drawn_by z w) (sym e) (let a = times_drawn-contains x v.kept.draws free.draw free.drawn free.from free.to in let b = none-times number_of x v.kept.puts free.unput in omega arith))
            (λ ne. let a = f.own y in let b = quiet y in let c = other_none x y (λ z. ne (sym z)) in omega arith);
        over = f.over;
        puts = f.puts;
        takes = f.takes;
      })
      h.each (λ e. absurd (omega arith)) (λ e. absurd (omega arith))
      in
      subst (λ z. (u : StoreView N) × (a : Act (Option N)) × Valid s.homes me.1 a × IsStore k (stepped s (suc x) (either (eqb z 0) 1 z) id me.1 u a) × began_put (step slots (suc x) 0 1 none) me z (u, carried_after me.1 a)) (sym zero_word)
      (w, takes x None, h.empty x (omega arith) zero_word, new, λ x' is. let e : x ≡ x' = omega arith in λ i. (with_putting v (e i), (e i, None) ∷ me.1))

  ends_put-suc : (slots id x : ℕ) (v : StoreView N) (node : N) → 0 < v.kept.parts → v.putting ≡ Some x → x < slots
      → Allows (IsStore k) slots id (v, (x, Some node) ∷ []) (suc x) (λ _. 2) (λ _. ended_put (step slots (suc x) 2 0 none) (v, (x, Some node) ∷ []) 2)
  ends_put-suc slots id x v node some_part busy within s h hs at fits =
      let f = h.each id v at in
      let mine : putting_by x v ≡ 1 = ap (times_in x) busy ∙ same_one x x refl in
      let one = one-le-sum (putting_by x) s.views id v at in
      let old : get_or s.words (suc x) 0 ≡ 1 = putting_word (get_or s.words (suc x) 0) (let a = h.putting x in omega arith) in
      let none_put : sum_by (put_by x) s.views ≡ 0 = h.put x ∙ ap is_put old in
      let none_taken : sum_by (taken_by x) s.views ≡ 0 = h.taken x ∙ ap is_taken old in
      let p : Numbered N = numbered x node in
      let w : StoreView N = having_put v p in
      let node_of : ℕ → Option N = λ y. cond (eqb y x) (Some node) (h.node_of y) in
      let here_node : node_of x ≡ Some node = ap (λ t. cond t (Some node) (h.node_of x)) (eq-eqb x x refl) in
      let else_node : (y : ℕ) → y ≢ x → node_of y ≡ h.node_of y = λ y ne. ap (λ t. cond t (Some node) (h.node_of y)) (ne_eqb y x ne) in
      let others : (j : ℕ) (u : StoreView N) → get_elem? s.views j ≡ some u → FitsStore k (get_or s.words 0 0) node_of u = λ j u there. let g = h.each j u there in record {
        idle = g.idle;
        whole = g.whole;
        front = g.front;
        own = g.own;
        over = g.over;
        puts = λ q c. else_node q.number (λ e. let a = one-le-sum (put_by x) s.views j u there in let b = subst (λ z. 0 < times z u.kept.puts) e (times-contains number_of u.kept.puts q c) in absurd (omega arith)) ∙ g.puts q c;
        takes = λ q c. else_node q.number (λ e. let a = one-le-sum (taken_by x) s.views j u there in let b = subst (λ z. 0 < times z u.kept.takes) e (times-contains number_of u.kept.takes q c) in absurd (omega arith)) ∙ g.takes q c;
      } in
      let g = others id v at in
      let pushed : (y : ℕ) → put_by y w ≡ put_by y v + one_if (eqb x y) = λ y. times-push number_of y v.kept.puts p in
      let new : IsStore k (stepped s (suc x) 2 id ((x, Some node) ∷ []) w gives) = moved s h id x 2 v w (some (Some node)) node_of at (omega arith) refl refl
      (let a = ap is_putting old in omega arith)
      (let a = ap is_put old in let b = pushed x in let c = same_one x x refl in omega arith)
      (let a = ap is_taken old in omega arith)
      (λ y ne. let o = other_none x y (λ z. ne (sym z)) in (sym (ap (times_in y) busy ∙ o), (let a = pushed y in omega arith), refl, else_node y ne))
      (record {
        idle = λ z. absurd (omega arith);
        whole = f.whole;
        front = f.front;
        own = λ y. let a = f.own y in let b = pushed y in let c : putting_by y v ≡ one_if (eqb x y) = ap (times_in y) busy in omega arith;
        over = f.over;
        puts = λ q c. ⊎_elim (λ t. g.puts q t) (λ e. subst (λ (z : Numbered N). node_of z.number ≡ Some z.node) e here_node) (Contains-push_cases v.kept.puts p q c);
        takes = g.takes;
      })
      others (λ e. absurd (omega arith)) (λ e. ap some (sym here_node))
      in
      let size : length (set s.homes x (some (Some node))) ≡ slots = length-set s.homes x (some (Some node)) ∙ hs in
      let known : KnowsStore slots w.kept = subst (λ z. KnowsStore z w.kept) size (knows (stepped s (suc x) 2 id ((x, Some node) ∷ []) w gives) new id w (here s.views id v w at) some_part) in (
        w,
        gives,
        tt,
        new,
        λ x' node' is same.
            let e : x ≡ x' = omega arith in let slot : Some node ≡ Some node' = ap first_held same in let n : node ≡ node' = cc in
            (λ i. (having_put v (numbered (e i) (n i)), []), known),
      )

  tries_take-suc : (slots id x : ℕ) (me : Me (Option N) (StoreView N)) → 0 < me.0.kept.parts → x < slots
      → Allows (IsStore k) slots id me (suc x) (λ n. either (eqb n 2) 3 n) (tried_take (step slots (suc x) 2 3 none) me)
  tries_take-suc slots id x me some_part within s h hs at fits =
      let v = me.0 in let f = h.each id v at in let old : ℕ = get_or s.words (suc x) 0 in
      let F : ℕ → Type 0 = λ z. (u : StoreView N) × (a : Act (Option N)) × Valid s.homes me.1 a × IsStore k (stepped s (suc x) z id me.1 u a) × tried_take (step slots (suc x) 2 3 none) me old (u, carried_after me.1 a) in
      exchanged old 2 3 F
      (λ hit.
      let some_put = some_in_sum (put_by x) s.views (let a = h.put x in let b = ap is_put hit in omega arith) in
      let has = contains-times number_of x some_put.1.kept.puts some_put.3 in
      let node : N = has.entry.node in
      let putter = h.each some_put.0 some_put.1 some_put.2 in
      let is_node : h.node_of x ≡ Some node = subst (λ z. h.node_of z ≡ Some node) has.is (putter.puts has.entry has.within) in
      let low : x < get_or s.words 0 0 = tables.low store_kind k (get_or s.words 0 0) s.views h.numbers some_put.0 some_put.1 some_put.2 x (let a = putter.own x in let b = some_put.3 in omega arith) in
      let p : Numbered N = numbered x node in
      let w : StoreView N = having_taken v p in
      let pushed : (y : ℕ) → taken_by y w ≡ taken_by y v + one_if (eqb x y) = λ y. times-push number_of y v.kept.takes p in
      let new : IsStore k (stepped s (suc x) 3 id me.1 w (takes x (Some node))) = moved s h id x 3 v w none h.node_of at (omega arith) refl refl
      (let a = ap is_putting hit in omega arith)
      (let a = ap is_put hit in omega arith)
      (let a = ap is_taken hit in let b = pushed x in let c = same_one x x refl in omega arith)
      (λ y ne. (refl, refl, (let a = pushed y in let b = other_none x y (λ z. ne (sym z)) in omega arith), refl))
      (record {
        idle = λ z. absurd (omega arith);
        whole = f.whole;
        front = (let a = f.front in omega arith);
        own = f.own;
        over = f.over;
        puts = f.puts;
        takes = λ q c. ⊎_elim (λ t. f.takes q t) (λ e. subst (λ (z : Numbered N). h.node_of z.number ≡ Some z.node) e is_node) (Contains-push_cases v.kept.takes p q c);
      })
      h.each (λ e. absurd (omega arith)) (λ e. absurd (omega arith))
      in
      let known : KnowsStore slots w.kept = subst (λ z. KnowsStore z w.kept) (length-set s.homes x none ∙ hs) (knows (stepped s (suc x) 3 id me.1 w (takes x (Some node))) new id w (here s.views id v w at) some_part) in (
        w,
        takes x (Some node),
        h.full x hit ∙ ap (λ z. some (some z)) is_node,
        new,
        λ x' is.
            let e : x ≡ x' = omega arith in
            (λ found. (node, (λ i. (having_taken v (numbered (e i) node), (e i, Some node) ∷ me.1)), known), λ ne. absurd (ne hit)),
      ))
      (λ miss. (
        having_tried v x old,
        keeps,
        tt,
        tries s id x old v me.1 at h,
        λ x' is. let e : x ≡ x' = omega arith in (λ found. absurd (miss found), λ ne. (λ i. (having_tried v (e i) old, me.1))),
      ))

  ends_take-suc : (slots id x : ℕ) (v : StoreView N) → 0 < times x v.kept.takes → x < slots
      → Allows (IsStore k) slots id (v, (x, None) ∷ []) (suc x) (λ _. 4) (λ _. ended_take (step slots (suc x) 4 0 none) (v, (x, None) ∷ []) 4)
  ends_take-suc slots id x v some_take within s h hs at fits =
      let one = one-le-sum (taken_by x) s.views id v at in
      let old = taken_done (get_or s.words (suc x) 0) (let a = h.taken x in omega arith) in
      let new : IsStore k (stepped s (suc x) 4 id ((x, None) ∷ []) v gives) = moved s h id x 4 v v (some None) h.node_of at (omega arith) refl refl
      (let a = old.0 in omega arith)
      (let a = old.1 in omega arith)
      (let a = old.2 in omega arith)
      (λ y ne. (refl, refl, refl, refl))
      (h.each id v at) h.each (λ e. refl) (λ e. absurd (omega arith))
      in
      (v, gives, tt, new, refl)

  pub learns : (slots id : ℕ) (me : Me (Option N) (StoreView N)) → 0 < me.0.kept.parts → Allows (IsStore k) slots id me 0 (λ n. n) (learned (step slots 0 0 0 none) me)
  learns slots id me some_part s h hs at fits = (me.0, keeps, tt, unchanged s 0 id me.0 me.1 at h, (refl, subst (λ z. KnowsStore z me.0.kept) hs (knows s h id me.0 at some_part)))

  -- the same with the number's word as it is computed
  pub begins_put : (slots id x : ℕ) (me : Me (Option N) (StoreView N)) → 0 < me.0.kept.parts → me.0.putting ≡ None → x < slots → IsFree me.0.kept x
      → Allows (IsStore k) slots id me (x + 1) (λ n. either (eqb n 0) 1 n) (began_put (step slots (x + 1) 0 1 none) me)
  begins_put slots id x me a b c d = subst (λ (i : ℕ). Allows (IsStore k) slots id me i (λ n. either (eqb n 0) 1 n) (began_put (step slots i 0 1 none) me)) (next x) (begins_put-suc slots id x me a b c d)

  pub ends_put : (slots id x : ℕ) (me : Me (Option N) (StoreView N)) (v : StoreView N) (node : N) → 0 < v.kept.parts → v.putting ≡ Some x → x < slots → me ≡ (v, (x, Some node) ∷ [])
      → Allows (IsStore k) slots id me (x + 1) (λ _. 2) (λ _. ended_put (step slots (x + 1) 2 0 none) me 2)
  ends_put slots id x me v node a b c is = subst (λ (z : ℕ × Me (Option N) (StoreView N)). Allows (IsStore k) slots id z.1 z.0 (λ _. 2) (λ _. ended_put (step slots z.0 2 0 none) z.1 2)) (λ i. (next x i, sym is i)) (ends_put-suc slots id x v node a b c)

  pub tries_take : (slots id x : ℕ) (me : Me (Option N) (StoreView N)) → 0 < me.0.kept.parts → x < slots
      → Allows (IsStore k) slots id me (x + 1) (λ n. either (eqb n 2) 3 n) (tried_take (step slots (x + 1) 2 3 none) me)
  tries_take slots id x me a b = subst (λ (i : ℕ). Allows (IsStore k) slots id me i (λ n. either (eqb n 2) 3 n) (tried_take (step slots i 2 3 none) me)) (next x) (tries_take-suc slots id x me a b)

  pub ends_take : (slots id x : ℕ) (me : Me (Option N) (StoreView N)) (v : StoreView N) → 0 < times x v.kept.takes → x < slots → me ≡ (v, (x, None) ∷ [])
      → Allows (IsStore k) slots id me (x + 1) (λ _. 4) (λ _. ended_take (step slots (x + 1) 4 0 none) me 4)
  ends_take slots id x me v a b is = subst (λ (z : ℕ × Me (Option N) (StoreView N)). Allows (IsStore k) slots id z.1 z.0 (λ _. 4) (λ _. ended_take (step slots z.0 4 0 none) z.1 4)) (λ i. (next x i, sym is i)) (ends_take-suc slots id x v a b)
