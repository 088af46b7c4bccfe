-- The seats of a store are dealt and joined, and the rule holds when it opens.
use Rattle.std.proofs.Common.{◌≡◌, ℕ, zero, suc, ◌+◌, ◌-◌, ◌*◌, ◌^◌, ◌<◌, ◌≤◌, not, [], ◌∷◌, ◌++◌, map, length, get_or, set, replicate, sym, refl, ap, ◌∙◌, subst, ⊎_elim, arith}
use Rattle.std.specs.Prelude.{None, Option, sum_by}
use Rattle.std.proofs.lemmas.List.{length-replicate}
use Rattle.std.proofs.lemmas.List.Elements.{Contains-append_cases}
use Rattle.std.proofs.lemmas.List.Sums.{sum_by-append}
use mathlib.Core.Option.{some}
use lib.ListN.{get_elem?}
use Rattle.atomic_table.specs.Table.{Splits, Joins, opening}
use Rattle.pq_numbers.specs.declared.draws.Draw.{Draw}
use Rattle.pq_numbers.specs.Tables.{AreDrawn}
use Rattle.pq_numbers.proofs.Sums.{sum_split, sum_joined, each_split, each_joined, at_before, one_view}
use Rattle.pq_numbers.proofs.Counts.{one_if, times-append, times_drawn-append}
use Rattle.pq_numbers.proofs.Tables as tables
use Rattle.bb_shared.specs.declared.store.stored.StoreView.{StoreView}
use Rattle.bb_shared.specs.StoreRules.{is_putting, is_put, is_taken, times_in, store_kind, over_by, drawn_by, putting_by, put_by, taken_by, FitsStore, IsStore, giver, given_one, one_part, views_joined, spent_view}
use Rattle.bb_shared.specs.Stores.{number_of}

apart : ◌≡◌ {A = ℕ} 0 2 → ⊥
apart e = absurd (omega arith)

get_or-replicate_zero : (n j : ℕ) → get_or {A = ℕ} (replicate n 0) j 0 ≡ 0
get_or-replicate_zero zero j = refl
get_or-replicate_zero (suc n) zero = refl
get_or-replicate_zero (suc n) (suc j) = get_or-replicate_zero n j

length-nones : (N : Type 0) (n : ℕ) → length (map some (replicate {A = Option N} n None)) ≡ n
length-nones N zero = refl
length-nones N (suc n) = ap suc (length-nones N n)

none_home : {N : Type 0} (n x : ℕ) → x < n → get_elem? (map some (replicate {A = Option N} n None)) x ≡ some (some None)
none_home zero x lt = absurd (omega arith)
none_home (suc n) zero lt = refl
none_home (suc n) (suc x) lt = none_home n x (omega arith)

-- the view of a seat that has done nothing
fresh_fits : {N : Type 0} (k seats parts made : ℕ) (node_of : ℕ → Option N) → (0 < parts → seats ≡ k) → FitsStore k made node_of (giver seats parts)
fresh_fits k seats parts made node_of whole = record {
  idle = λ z. record { puts = refl; takes = refl; putting = refl };
  whole = whole;
  front = omega arith;
  own = λ x. omega arith;
  over = omega arith;
  puts = λ p c. let lt = c.1 in absurd (omega arith);
  takes = λ p c. let lt = c.1 in absurd (omega arith);
}

module _ {N : Type 0} (k : ℕ) where
  -- One part goes to a new seat
  pub deals : (id seats parts : ℕ) → Splits (IsStore {N = N} k) id (giver seats (suc parts)) (given_one (giver seats (suc parts))) (one_part (giver seats (suc parts)))
  deals id seats parts s h at =
      let v : StoreView N = giver seats (suc parts) in let l : StoreView N = given_one v in let r : StoreView N = one_part v in
      let f = h.each id v at in
      let split : (g : StoreView N → ℕ) → g l + g r ≡ g v → sum_by g (set s.views id l ++ r ∷ []) ≡ sum_by g s.views = λ g. sum_split g s.views id v l r at in
      record {
        few = h.few;
        wide = h.wide;
        numbers = tables.split store_kind k (get_or s.words 0 0) s.views h.numbers id v at l r (omega arith) refl refl refl;
        bounded = subst (λ z. get_or s.words 0 0 ≤ 2 ^ 32 + 100 * z) (sym (split over_by refl)) h.bounded;
        putting = λ x. split (putting_by x) refl ∙ h.putting x;
        put = λ x. split (put_by x) refl ∙ h.put x;
        taken = λ x. split (taken_by x) refl ∙ h.taken x;
        node_of = h.node_of;
        each = each_split (FitsStore k (get_or s.words 0 0) h.node_of) s.views id l r
            (fresh_fits k seats (suc parts - 1) (get_or s.words 0 0) h.node_of (λ z. f.whole (omega arith)))
            (fresh_fits k seats 1 (get_or s.words 0 0) h.node_of (λ z. f.whole (omega arith)))
            h.each;
        empty = h.empty;
        full = h.full;
      }

  -- A seat takes in another, which is spent
  pub joins : (id other : ℕ) (v w : StoreView N) → 0 < v.kept.parts → w.putting ≡ None → Joins (IsStore k) id v other w (views_joined v w) spent_view
  joins id other v w some_part quiet s h at apart to =
      let b : StoreView N = views_joined v w in let spent : StoreView N = spent_view in
      let before = at_before s.views id other b w apart to in
      let f = h.each id v at in let g = h.each other w before in
      let both : (m : StoreView N → ℕ) → m b ≡ m v + m w → m spent ≡ 0 → sum_by m (set (set s.views id b) other spent) ≡ sum_by m s.views = λ m. sum_joined m s.views id other v w b spent at to in
      let of_draws : (x : ℕ) → drawn_by x b ≡ drawn_by x v + drawn_by x w = λ x. times_drawn-append x v.kept.draws w.kept.draws in
      let of_puts : (x : ℕ) → put_by x b ≡ put_by x v + put_by x w = λ x. times-append number_of x v.kept.puts w.kept.puts in
      let of_takes : (x : ℕ) → taken_by x b ≡ taken_by x v + taken_by x w = λ x. times-append number_of x v.kept.takes w.kept.takes in
      let of_putting : (x : ℕ) → putting_by x b ≡ putting_by x v + putting_by x w = λ x. let q = ap (times_in x) quiet in omega arith in
      let of_over : over_by b ≡ over_by v + over_by w = sum_by-append (λ (d : Draw). one_if (not d.within)) v.kept.draws w.kept.draws in
      record {
        few = h.few;
        wide = h.wide;
        numbers = tables.joined store_kind k (get_or s.words 0 0) s.views h.numbers id v at other w b spent apart to refl refl refl refl;
        bounded = subst (λ z. get_or s.words 0 0 ≤ 2 ^ 32 + 100 * z) (sym (both over_by of_over refl)) h.bounded;
        putting = λ x. both (putting_by x) (of_putting x) refl ∙ h.putting x;
        put = λ x. both (put_by x) (of_puts x) refl ∙ h.put x;
        taken = λ x. both (taken_by x) (of_takes x) refl ∙ h.taken x;
        node_of = h.node_of;
        each = each_joined (FitsStore k (get_or s.words 0 0) h.node_of) s.views id other b spent
            (record {
              idle = λ z. absurd (omega arith);
              whole = λ z. f.whole some_part;
              front = (let x = f.front in let y = g.front in omega arith);
              own = λ x. let x1 = f.own x in let x2 = g.own x in let x3 = of_draws x in let x4 = of_puts x in let x5 = of_putting x in omega arith;
              over = (let x = f.over in let y = g.over in omega arith);
              puts = λ p c. ⊎_elim (f.puts p) (g.puts p) (Contains-append_cases v.kept.puts w.kept.puts p c);
              takes = λ p c. ⊎_elim (f.takes p) (g.takes p) (Contains-append_cases v.kept.takes w.kept.takes p c);
            })
            (fresh_fits k 0 0 (get_or s.words 0 0) h.node_of (λ z. absurd (omega arith)))
            h.each;
        empty = h.empty;
        full = h.full;
      }

  -- The rule holds where no number is drawn and one seat has all parts
  pub opens : (n : ℕ) → k ≤ 16 → IsStore {N = N} k (opening (replicate (suc n) 0) (replicate n None) (giver k k))
  opens n few =
      let zero_word : (j : ℕ) → get_or {A = ℕ} (replicate (suc n) 0) j 0 ≡ 0 = λ j. get_or-replicate_zero (suc n) j in
      record {
        few = few;
        wide = length-replicate (suc n) 0 ∙ ap suc (sym (length-nones N n));
        numbers = subst (λ z. AreDrawn store_kind k z (giver {N = N} k k ∷ [])) (sym (zero_word 0)) (tables.opens store_kind k (giver k k) refl refl);
        bounded = (let z = zero_word 0 in omega arith);
        putting = λ x. sym (ap is_putting (zero_word (suc x)));
        put = λ x. sym (ap is_put (zero_word (suc x)));
        taken = λ x. sym (ap is_taken (zero_word (suc x)));
        node_of = λ x. None;
        each = λ j u there. subst (FitsStore k (get_or (replicate (suc n) 0) 0 0) (λ x. None)) (one_view (giver k k) j u there) (fresh_fits k k k (get_or (replicate (suc n) 0) 0 0) (λ x. None) (λ z. refl));
        empty = λ x lt is. none_home n x (let l = length-nones N n in omega arith);
        full = λ x is. absurd (apart (sym (zero_word (suc x)) ∙ is));
      }
