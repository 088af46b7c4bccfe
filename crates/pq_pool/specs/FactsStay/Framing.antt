-- The steps of which the pool knows nothing keep the facts: those on words and on parts of views that it does not read,
-- and the coming and going of seats.
use Rattle.std.proofs.Common.{◌≡◌, ℕ, ◌+◌, ◌<◌, ◌≤◌, true, false, List, [], ◌∷◌, ◌++◌, length, get_or, set, refl, ap}
use Rattle.std.proofs.Common.{◌∙◌, sym, subst, ⊎_elim, arith, Contains}
use mathlib.Core.Option.{some}
use lib.ListN.{get_elem?}
use native.Mathlib.Decide.{ℕ_discrete}
use mathlib.Core.Logic.{dite}
use Rattle.atomic_table.proofs.Lists.{at_set, at_snoc, at_longer, set_else}
use Rattle.pq_model.specs.History.{IsSeat}
use Rattle.pq_seats.specs.declared.views.Limits.{Limits}
use Rattle.pq_seats.specs.declared.views.Post.{Post}
use Rattle.pq_seats.proofs.Lists.{same_at, put_here}
use Rattle.pq_pool.specs.declared.views.PoolState.{PoolState}
use Rattle.pq_pool.specs.declared.views.PoolView.{PoolView}
use Rattle.pq_pool.specs.Layout.{builder_word, next_word, state_word, first_chunk}
use Rattle.pq_pool.specs.States.{IsSafe, Sized, Written}
use Rattle.pq_pool.specs.Facts.{PoolFacts, IsPinned, IsBuilder}
use Rattle.pq_pool.specs.FactsStay.Words.{written_still, builder_still, pinned_still}

module _ {O : Type 0} (view_of : O → PoolView) (k : Limits) (words : List ℕ) (posts : List (Post O)) (t : PoolFacts view_of k words posts) where
  -- a seat that holds nothing comes
  pub come_stays : (f : Post O) → (view_of f.own).pinned ≡ false → ¬ Contains f.locks builder_word → PoolFacts view_of k words (posts ++ f ∷ [])
  come_stays f unpinned no_lock = record {
    few_seats = t.few_seats;
    long = t.long;
    chunks = t.chunks;
    counted = t.counted;
    sized = t.sized;
    kinds = t.kinds;
    links = t.links;
    free = t.free;
    held = λ j q to has. ⊎_elim (λ a. t.held j q a has) (λ e. absurd (no_lock (subst (λ (z : Post O). Contains z.locks builder_word) (sym e) has))) (at_snoc posts f q j to);
    pinned = λ j q to positive is. ⊎_elim
        (λ a. t.pinned j q a positive is)
        (λ e. let bad : false ≡ true = sym unpinned ∙ (ap (λ (z : Post O). (view_of z.own).pinned) e ∙ is) in absurd (cc))
        (at_snoc posts f q j to);
    loose = λ n s word. let o = t.loose n s word in (o.0, o.1, at_longer posts (f ∷ []) o.0 o.1 o.2, o.3, o.4);
  }

  pub come_stays-counted : (f : Post O) (unpinned : (view_of f.own).pinned ≡ false) (no_lock : ¬ Contains f.locks builder_word) → (come_stays f unpinned no_lock).counted ≡ t.counted
  unfolding come_stays
  come_stays-counted f unpinned no_lock = refl

  -- a seat without a pin gives way to a post that has neither a pin nor the builder's word
  pub go_stays : (id : ℕ) (p p' : Post O) → get_elem? posts id ≡ some p → (view_of p.own).pinned ≡ false → (view_of p'.own).pinned ≡ false → ¬ Contains p'.locks builder_word → PoolFacts view_of k words (set posts id p')
  go_stays id p p' at unpinned unpinned' no_lock = record {
    few_seats = t.few_seats;
    long = t.long;
    chunks = t.chunks;
    counted = t.counted;
    sized = t.sized;
    kinds = t.kinds;
    links = t.links;
    free = t.free;
    held = λ j q to has. ⊎_elim (λ e. absurd (no_lock (subst (λ (z : Post O). Contains z.locks builder_word) (sym e.1) has))) (λ r. t.held j q r.1 has) (at_set posts id j p' q to);
    pinned = λ j q to positive is. ⊎_elim
        (λ e. let bad : false ≡ true = sym unpinned' ∙ (ap (λ (z : Post O). (view_of z.own).pinned) e.1 ∙ is) in absurd (cc))
        (λ r. t.pinned j q r.1 positive is)
        (at_set posts id j p' q to);
    loose = λ n s word. let o = t.loose n s word in dite (ℕ_discrete o.0 id)
        (λ e. let is : o.1 ≡ p = same_at posts id o.1 p (subst (λ (z : ℕ). get_elem? posts z ≡ some o.1) e o.2) at in
        let bad : false ≡ true = sym unpinned ∙ (sym (ap (λ (z : Post O). (view_of z.own).pinned) is) ∙ o.4) in absurd (cc))
        (λ d. (o.0, o.1, set_else posts id o.0 p' d ∙ o.2, o.3, o.4));
  }

  pub go_stays-counted : (id : ℕ) (p p' : Post O) (at : get_elem? posts id ≡ some p) (unpinned : (view_of p.own).pinned ≡ false) (unpinned' : (view_of p'.own).pinned ≡ false) (no_lock : ¬ Contains p'.locks builder_word)
      → (go_stays id p p' at unpinned unpinned' no_lock).counted ≡ t.counted
  unfolding go_stays
  go_stays-counted id p p' at unpinned unpinned' no_lock = refl

  -- a seat changes what the pool does not read of it
  pub seat_stays : (id : ℕ) (p p' : Post O) → get_elem? posts id ≡ some p → p'.number ≡ p.number → p'.locks ≡ p.locks → view_of p'.own ≡ view_of p.own → PoolFacts view_of k words (set posts id p')
  seat_stays id p p' at number locks view = record {
    few_seats = t.few_seats;
    long = t.long;
    chunks = t.chunks;
    counted = t.counted;
    sized = t.sized;
    kinds = t.kinds;
    links = t.links;
    free = t.free;
    held = λ j q to has. ⊎_elim
        (λ e. subst (λ (z : Post O). IsBuilder view_of words t.chunks.count k.seats t.counted z) e.1
        (let b = t.held id p at (subst (λ (z : List ℕ). Contains z builder_word) locks (subst (λ (z : Post O). Contains z.locks builder_word) (sym e.1) has)) in record {
          seat = subst (λ (z : ℕ). IsSeat k.seats z) (sym number) b.seat;
          word = b.word ∙ sym number;
          names = ap (λ (z : PoolView). z.counted) view ∙ b.names;
          sized = subst (λ (z : PoolView). Sized t.chunks.count k.seats z.stored) (sym view) b.sized;
          written = subst (λ (z : PoolView). Written t.chunks.count k.seats words z.stored) (sym view) b.written;
          unpinned = ap (λ (z : PoolView). z.pinned) view ∙ b.unpinned;
          no_pin = ap (λ (z : ℕ). get_or words (17 + z) 0) number ∙ b.no_pin;
        }))
        (λ r. t.held j q r.1 has)
        (at_set posts id j p' q to);
    pinned = λ j q to positive is. ⊎_elim
        (λ e. subst (λ (z : Post O). IsPinned view_of words t.chunks.count k.seats t.counted z) e.1
        (let own : (view_of p.own).pinned ≡ true = sym (ap (λ (z : PoolView). z.pinned) view) ∙ (ap (λ (z : Post O). (view_of z.own).pinned) e.1 ∙ is) in
        let some_number : 0 < p.number = subst (λ (z : ℕ). 0 < z) (sym (ap (λ (z : Post O). z.number) e.1) ∙ number) positive in
        let o = t.pinned id p at some_number own in record {
          seat = subst (λ (z : ℕ). IsSeat k.seats z) (sym number) o.seat;
          word = ap (λ (z : ℕ). get_or words (17 + z) 0) number ∙ o.word;
          safe = λ c on. subst (λ (z : ℕ). (c < t.chunks.count) × IsSafe t.counted z c) (sym number) (o.safe c (subst (λ (z : PoolView). Contains z.stands c) view on));
        }))
        (λ r. t.pinned j q r.1 positive is)
        (at_set posts id j p' q to);
    loose = λ n s word. let o = t.loose n s word in dite (ℕ_discrete o.0 id)
        (λ e. let is : o.1 ≡ p = same_at posts id o.1 p (subst (λ (z : ℕ). get_elem? posts z ≡ some o.1) e o.2) at in
        (id, p', put_here posts id p p' at, number ∙ (sym (ap (λ (z : Post O). z.number) is) ∙ o.3), ap (λ (z : PoolView). z.pinned) view ∙ (sym (ap (λ (z : Post O). (view_of z.own).pinned) is) ∙ o.4)))
        (λ d. (o.0, o.1, set_else posts id o.0 p' d ∙ o.2, o.3, o.4));
  }

  pub seat_stays-counted : (id : ℕ) (p p' : Post O) (at : get_elem? posts id ≡ some p) (number : p'.number ≡ p.number) (locks : p'.locks ≡ p.locks) (view : view_of p'.own ≡ view_of p.own)
      → (seat_stays id p p' at number locks view).counted ≡ t.counted
  unfolding seat_stays
  seat_stays-counted id p p' at number locks view = refl

  -- words change that are not the pool's
  pub words_stay : (words' : List ℕ) → length words' ≡ length words → ((i : ℕ) → builder_word ≤ i → i < first_chunk → get_or words' i 0 ≡ get_or words i 0)
      → ((c : ℕ) → c < t.chunks.count → get_or words' (state_word c) 0 ≡ get_or words (state_word c) 0)
      → ((c : ℕ) → c < t.chunks.count → get_or words' (next_word c) 0 ≡ get_or words (next_word c) 0) → PoolFacts view_of k words' posts
  words_stay words' long same states nexts =
      let few = t.few_seats in
      let written : (b : PoolState) → Written t.chunks.count k.seats words b → Written t.chunks.count k.seats words' b = λ b w.
      written_still t.chunks.count k.seats words words' b states (λ n s. let high = s.1 in same (33 + n) (omega arith) (omega arith)) w in record {
        few_seats = t.few_seats;
        long = long ∙ t.long;
        chunks = t.chunks;
        counted = t.counted;
        sized = t.sized;
        kinds = t.kinds;
        links = λ c u lt link. t.links c u lt (sym (nexts c lt) ∙ link);
        free = λ e. written t.counted (t.free (sym (same 17 (omega arith) (omega arith)) ∙ e));
        held = λ j q to has. let b = t.held j q to has in let high = b.seat.1 in
            builder_still t.chunks.count k.seats words words' view_of t.counted q b (same 17 (omega arith) (omega arith)) (same (17 + q.number) (omega arith) (omega arith)) (written (view_of q.own).stored);
        pinned = λ j q to positive is. let o = t.pinned j q to positive is in let high = o.seat.1 in
            pinned_still t.chunks.count k.seats words words' view_of t.counted q t.counted o (same (17 + q.number) (omega arith) (omega arith)) (λ c s. s);
        loose = λ n s word. let high = s.1 in t.loose n s (λ z. word (same (17 + n) (omega arith) (omega arith) ∙ z));
      }

  pub words_stay-counted : (words' : List ℕ) (long : length words' ≡ length words) (same : (i : ℕ) → builder_word ≤ i → i < first_chunk → get_or words' i 0 ≡ get_or words i 0)
      (states : (c : ℕ) → c < t.chunks.count → get_or words' (state_word c) 0 ≡ get_or words (state_word c) 0)
      (nexts : (c : ℕ) → c < t.chunks.count → get_or words' (next_word c) 0 ≡ get_or words (next_word c) 0) → (words_stay words' long same states nexts).counted ≡ t.counted
  unfolding words_stay
  words_stay-counted words' long same states nexts = refl

-- A step above the pool keeps its facts, whatever it does to other words and to the rest of the seat's view
module _ {O : Type 0} (view_of : O → PoolView) (k : Limits) (words words' : List ℕ) (posts : List (Post O)) (t : PoolFacts view_of k words posts)
    (id : ℕ) (p p' : Post O) (at : get_elem? posts id ≡ some p) where
  pub frame : p'.number ≡ p.number → p'.locks ≡ p.locks → view_of p'.own ≡ view_of p.own → length words' ≡ length words
      → ((i : ℕ) → builder_word ≤ i → i < first_chunk → get_or words' i 0 ≡ get_or words i 0)
      → ((c : ℕ) → get_or words' (state_word c) 0 ≡ get_or words (state_word c) 0)
      → ((c : ℕ) → get_or words' (next_word c) 0 ≡ get_or words (next_word c) 0) → PoolFacts view_of k words' (set posts id p')
  frame number locks view long same states nexts =
      words_stay view_of k words (set posts id p') (seat_stays view_of k words posts t id p p' at number locks view) words' long same (λ c lt. states c) (λ c lt. nexts c)

  pub frame-counted : (number : p'.number ≡ p.number) (locks : p'.locks ≡ p.locks) (view : view_of p'.own ≡ view_of p.own) (long : length words' ≡ length words)
      (same : (i : ℕ) → builder_word ≤ i → i < first_chunk → get_or words' i 0 ≡ get_or words i 0)
      (states : (c : ℕ) → get_or words' (state_word c) 0 ≡ get_or words (state_word c) 0)
      (nexts : (c : ℕ) → get_or words' (next_word c) 0 ≡ get_or words (next_word c) 0) → (frame number locks view long same states nexts).counted ≡ t.counted
  unfolding frame
  frame-counted number locks view long same states nexts =
      words_stay-counted view_of k words (set posts id p') (seat_stays view_of k words posts t id p p' at number locks view) words' long same (λ c lt. states c) (λ c lt. nexts c)
      ∙ seat_stays-counted view_of k words posts t id p p' at number locks view
