-- Steps of a rule above that touch what the pool reads: a pinned seat comes to stand on further chunks, the builder
-- stores a link, and chunks that it has built count as live before their states are stored.
use Rattle.std.proofs.Common.{◌≡◌, ◌≢◌, ℕ, suc, ◌+◌, ◌*◌, ◌<◌, ◌≤◌, true, false, List, get_or, set, refl, ap, ◌∙◌}
use Rattle.std.proofs.Common.{sym, subst, ⊎_elim, arith, Contains, length-set, get_or-set_same, get_or-set_other}
use mathlib.Core.Option.{some}
use lib.ListN.{get_elem?}
use native.Mathlib.Decide.{ℕ_discrete}
use mathlib.Core.Logic.{dite}
use Rattle.atomic_table.proofs.Lists.{at_set, set_else}
use Rattle.pq_model.specs.History.{IsSeat}
use Rattle.pq_seats.specs.declared.views.Limits.{Limits}
use Rattle.pq_seats.specs.declared.views.Post.{Post}
use Rattle.pq_seats.proofs.Lists.{same_at, put_here}
use Rattle.pq_pool.specs.declared.views.PoolState.{PoolState}
use Rattle.pq_pool.specs.declared.views.PoolView.{PoolView}
use Rattle.pq_pool.specs.Layout.{builder_word, next_word}
use Rattle.pq_pool.specs.States.{state_of, IsInUse, IsSafe, Sized, Written}
use Rattle.pq_pool.specs.Facts.{PoolFacts, IsPinned, IsBuilder}
use Rattle.pq_pool.specs.Views.{pinned_on}
use Rattle.pq_pool.specs.FactsStay.Words.{written_still, builder_still, pinned_still}

module _ {O : Type 0} (view_of : O → PoolView) (k : Limits) (words : List ℕ) (posts : List (Post O)) (t : PoolFacts view_of k words posts) where
  -- a pinned seat stands on these chunks from then on, each of which is safe for it
  pub stand_stays : (id : ℕ) (p p' : Post O) → get_elem? posts id ≡ some p → 0 < p.number → (view_of p.own).pinned ≡ true → ¬ Contains p.locks builder_word
      → p'.number ≡ p.number → p'.locks ≡ p.locks → (stands : List ℕ) → view_of p'.own ≡ pinned_on (view_of p.own) stands
      → ((c : ℕ) → Contains stands c → (c < t.chunks.count) × IsSafe t.counted p.number c) → PoolFacts view_of k words (set posts id p')
  stand_stays id p p' at positive is no_lock number locks stands view safe =
      let o = t.pinned id p at positive is in record {
        few_seats = t.few_seats;
        long = t.long;
        chunks = t.chunks;
        counted = t.counted;
        sized = t.sized;
        kinds = t.kinds;
        links = t.links;
        free = t.free;
        held = λ j q to has. ⊎_elim
            (λ e. absurd (no_lock (subst (λ (z : List ℕ). Contains z builder_word) locks (subst (λ (z : Post O). Contains z.locks builder_word) (sym e.1) has))))
            (λ r. t.held j q r.1 has)
            (at_set posts id j p' q to);
        pinned = λ j q to some_number pinned. ⊎_elim
            (λ e. subst (λ (z : Post O). IsPinned view_of words t.chunks.count k.seats t.counted z) e.1 (record {
              seat = subst (λ (z : ℕ). IsSeat k.seats z) (sym number) o.seat;
              word = ap (λ (z : ℕ). get_or words (17 + z) 0) number ∙ o.word;
              safe = λ c on. subst (λ (z : ℕ). (c < t.chunks.count) × IsSafe t.counted z c) (sym number) (safe c (subst (λ (z : PoolView). Contains z.stands c) view on));
            }))
            (λ r. t.pinned j q r.1 some_number pinned)
            (at_set posts id j p' q to);
        loose = λ n s word. let l = t.loose n s word in dite (ℕ_discrete l.0 id)
            (λ e. let same : l.1 ≡ p = same_at posts id l.1 p (subst (λ (z : ℕ). get_elem? posts z ≡ some l.1) e l.2) at in
            (id, p', put_here posts id p p' at, number ∙ (sym (ap (λ (z : Post O). z.number) same) ∙ l.3), ap (λ (z : PoolView). z.pinned) view))
            (λ d. (l.0, l.1, set_else posts id l.0 p' d ∙ l.2, l.3, l.4));
      }

  pub stand_stays-counted : (id : ℕ) (p p' : Post O) (at : get_elem? posts id ≡ some p) (positive : 0 < p.number) (is : (view_of p.own).pinned ≡ true) (no_lock : ¬ Contains p.locks builder_word)
      (number : p'.number ≡ p.number) (locks : p'.locks ≡ p.locks) (stands : List ℕ) (view : view_of p'.own ≡ pinned_on (view_of p.own) stands)
      (safe : (c : ℕ) → Contains stands c → (c < t.chunks.count) × IsSafe t.counted p.number c) → (stand_stays id p p' at positive is no_lock number locks stands view safe).counted ≡ t.counted
  unfolding stand_stays
  stand_stays-counted id p p' at positive is no_lock number locks stands view safe = refl

  -- a link is stored: where its chunk is in use, so is the one that it names, and that is no nearer to being free
  pub link_stays : (c x : ℕ) → ((next : ℕ) → x ≡ suc next → IsInUse t.counted c → (next < t.chunks.count) × IsInUse t.counted next × (state_of t.counted next ≤ state_of t.counted c))
      → PoolFacts view_of k (set words (next_word c) x) posts
  link_stays c x fits =
      let i : ℕ = 115 + 69 * c in let ws = set words i x in let n : ℕ = t.chunks.count in
      let few = t.few_seats in let long = t.long in let room = t.chunks.room in
      let other : (j : ℕ) → j ≢ i → get_or ws j 0 ≡ get_or words j 0 = λ j ne. get_or-set_other words i j x 0 ne in
      let written : (b : PoolState) → Written n k.seats words b → Written n k.seats ws b = λ b w.
      written_still n k.seats words ws b (λ e lt. other (118 + 69 * e) (λ z. omega arith)) (λ m s. let high = s.1 in other (33 + m) (λ z. omega arith)) w in record {
        few_seats = t.few_seats;
        long = length-set words i x ∙ t.long;
        chunks = t.chunks;
        counted = t.counted;
        sized = t.sized;
        kinds = t.kinds;
        links = λ e u lt link in_use. dite (ℕ_discrete e c)
            (λ q. let hit : get_or ws i 0 ≡ x = get_or-set_same words i x 0 (omega arith) in
            let f = fits u (sym hit ∙ (ap (λ (z : ℕ). get_or ws (115 + 69 * z) 0) (sym q) ∙ link)) (subst (λ (z : ℕ). IsInUse t.counted z) q in_use) in
            subst (λ (z : ℕ). (u < n) × IsInUse t.counted u × (state_of t.counted u ≤ state_of t.counted z)) (sym q) f)
            (λ q. t.links e u lt (sym (other (115 + 69 * e) (λ z. q (omega arith))) ∙ link) in_use);
        free = λ e. written t.counted (t.free (sym (other 17 (λ z. omega arith)) ∙ e));
        held = λ j q to has. let b = t.held j q to has in let high = b.seat.1 in
            builder_still n k.seats words ws view_of t.counted q b (other 17 (λ z. omega arith)) (other (17 + q.number) (λ z. omega arith)) (written (view_of q.own).stored);
        pinned = λ j q to positive is. let o = t.pinned j q to positive is in let high = o.seat.1 in
            pinned_still n k.seats words ws view_of t.counted q t.counted o (other (17 + q.number) (λ z. omega arith)) (λ e s. s);
        loose = λ m s word. let high = s.1 in t.loose m s (λ z. word (other (17 + m) (λ y. omega arith) ∙ z));
      }

  pub link_stays-counted : (c x : ℕ) (fits : (next : ℕ) → x ≡ suc next → IsInUse t.counted c → (next < t.chunks.count) × IsInUse t.counted next × (state_of t.counted next ≤ state_of t.counted c))
      → (link_stays c x fits).counted ≡ t.counted
  unfolding link_stays
  link_stays-counted c x fits = refl

  module _ (id : ℕ) (p p' : Post O) (at : get_elem? posts id ≡ some p) (has : Contains p.locks builder_word)
      (alone : (j : ℕ) (q : Post O) → j ≢ id → get_elem? posts j ≡ some q → ¬ Contains q.locks builder_word) (number : p'.number ≡ p.number) where
    -- the chunks and bits count in another way, in which the facts hold and who was safe is safe. No word changes
    pub recount_stays : (view_of p'.own).stored ≡ (view_of p.own).stored → (view_of p'.own).pinned ≡ false → (b : PoolState) → (view_of p'.own).counted ≡ b
        → Sized t.chunks.count k.seats b → ((c : ℕ) → state_of b c ≤ 4)
        → ((c next : ℕ) → c < t.chunks.count → get_or words (next_word c) 0 ≡ suc next → IsInUse b c → (next < t.chunks.count) × IsInUse b next × (state_of b next ≤ state_of b c))
        → ((n c : ℕ) → IsSafe t.counted n c → IsSafe b n c) → PoolFacts view_of k words (set posts id p')
    recount_stays stored unpinned b counted sized kinds links safe =
        let old : IsBuilder view_of words t.chunks.count k.seats t.counted p = t.held id p at has in let low = old.seat.0 in let word = old.word in record {
          few_seats = t.few_seats;
          long = t.long;
          chunks = t.chunks;
          counted = b;
          sized = sized;
          kinds = kinds;
          links = links;
          free = λ e. absurd (omega arith);
          held = λ j q to has'. ⊎_elim
              (λ e. subst (λ (z : Post O). IsBuilder view_of words t.chunks.count k.seats b z) e.1 (record {
                seat = subst (λ (z : ℕ). IsSeat k.seats z) (sym number) old.seat;
                word = old.word ∙ sym number;
                names = counted;
                sized = subst (λ (z : PoolState). Sized t.chunks.count k.seats z) (sym stored) old.sized;
                written = subst (λ (z : PoolState). Written t.chunks.count k.seats words z) (sym stored) old.written;
                unpinned = unpinned;
                no_pin = ap (λ (z : ℕ). get_or words (17 + z) 0) number ∙ old.no_pin;
              }))
              (λ r. absurd (alone j q r.0 r.1 has'))
              (at_set posts id j p' q to);
          pinned = λ j q to positive is. ⊎_elim
              (λ e. let bad : false ≡ true = sym unpinned ∙ (ap (λ (z : Post O). (view_of z.own).pinned) e.1 ∙ is) in absurd (cc))
              (λ r. let o = t.pinned j q r.1 positive is in pinned_still t.chunks.count k.seats words words view_of t.counted q b o refl (λ c s. safe q.number c s))
              (at_set posts id j p' q to);
          loose = λ n s w. let l = t.loose n s w in dite (ℕ_discrete l.0 id)
              (λ e. let same : l.1 ≡ p = same_at posts id l.1 p (subst (λ (z : ℕ). get_elem? posts z ≡ some l.1) e l.2) at in
              let bad : false ≡ true = sym old.unpinned ∙ (sym (ap (λ (z : Post O). (view_of z.own).pinned) same) ∙ l.4) in absurd (cc))
              (λ d. (l.0, l.1, set_else posts id l.0 p' d ∙ l.2, l.3, l.4));
        }

    pub recount_stays-counted : (stored : (view_of p'.own).stored ≡ (view_of p.own).stored) (unpinned : (view_of p'.own).pinned ≡ false) (b : PoolState) (counted : (view_of p'.own).counted ≡ b)
        (sized : Sized t.chunks.count k.seats b) (kinds : (c : ℕ) → state_of b c ≤ 4)
        (links : (c next : ℕ) → c < t.chunks.count → get_or words (next_word c) 0 ≡ suc next → IsInUse b c → (next < t.chunks.count) × IsInUse b next × (state_of b next ≤ state_of b c))
        (safe : (n c : ℕ) → IsSafe t.counted n c → IsSafe b n c) → (recount_stays stored unpinned b counted sized kinds links safe).counted ≡ b
    unfolding recount_stays
    recount_stays-counted stored unpinned b counted sized kinds links safe = refl
