-- The taking and the freeing of the builder's word keep the facts.
use Rattle.std.proofs.Common.{◌≡◌, ◌≢◌, ℕ, ◌+◌, ◌*◌, true, false, List, get_or, set, refl, ap, ◌∙◌, sym, subst}
use Rattle.std.proofs.Common.{⊎_elim, arith, Contains, length-set, get_or-set_same, get_or-set_other}
use mathlib.Core.Option.{some}
use lib.ListN.{get_elem?}
use native.Mathlib.Decide.{ℕ_discrete}
use mathlib.Core.Logic.{dite}
use Rattle.atomic_table.proofs.Lists.{at_set, set_else}
use Rattle.pq_model.specs.History.{IsSeat}
use Rattle.pq_seats.specs.declared.views.Limits.{Limits}
use Rattle.pq_seats.specs.declared.views.Post.{Post}
use Rattle.pq_seats.proofs.Lists.{same_at}
use Rattle.pq_pool.specs.declared.views.PoolState.{PoolState}
use Rattle.pq_pool.specs.declared.views.PoolView.{PoolView}
use Rattle.pq_pool.specs.Layout.{builder_word}
use Rattle.pq_pool.specs.States.{Sized, Written, Agrees}
use Rattle.pq_pool.specs.Facts.{PoolFacts, IsBuilder}
use Rattle.pq_pool.specs.FactsStay.Words.{written_still, pinned_still}

module _ {O : Type 0} (view_of : O → PoolView) (k : Limits) (words : List ℕ) (posts : List (Post O)) (t : PoolFacts view_of k words posts)
    (id : ℕ) (p : Post O) (at : get_elem? posts id ≡ some p) (seat : IsSeat k.seats p.number)
    (unpinned : (view_of p.own).pinned ≡ false)
    (p' : Post O) (number : p'.number ≡ p.number) (unpinned' : (view_of p'.own).pinned ≡ false) where
  module _ (x : ℕ) where
    abbrev ws : List ℕ
    ws = set words builder_word x

    still : (j : ℕ) → j ≢ 17 → get_or ws j 0 ≡ get_or words j 0
    still j ne = get_or-set_other words 17 j x 0 ne

    written : (b : PoolState) → Written t.chunks.count k.seats words b → Written t.chunks.count k.seats ws b
    written b w = written_still t.chunks.count k.seats words ws b (λ c lt. still (118 + 69 * c) (λ z. omega arith)) (λ n s. still (33 + n) (λ z. omega arith)) w

    -- the facts but what the builder's word itself says
    facts_but : (get_or ws builder_word 0 ≡ 0 → Written t.chunks.count k.seats words t.counted)
        → ((j : ℕ) (q : Post O) → get_elem? (set posts id p') j ≡ some q → Contains q.locks builder_word → IsBuilder view_of ws t.chunks.count k.seats t.counted q)
        → PoolFacts view_of k ws (set posts id p')
    facts_but free held = record {
      few_seats = t.few_seats;
      long = length-set words 17 x ∙ t.long;
      chunks = t.chunks;
      counted = t.counted;
      sized = t.sized;
      kinds = t.kinds;
      links = λ c u lt link. t.links c u lt (sym (still (115 + 69 * c) (λ z. omega arith)) ∙ link);
      free = λ e. written t.counted (free e);
      held = held;
      pinned = λ j q to positive is. ⊎_elim
          (λ e. let bad : false ≡ true = sym unpinned' ∙ (ap (λ (z : Post O). (view_of z.own).pinned) e.1 ∙ is) in absurd (cc))
          (λ r. let o = t.pinned j q r.1 positive is in let low = o.seat.0 in pinned_still t.chunks.count k.seats words ws view_of t.counted q t.counted o (still (17 + q.number) (λ z. omega arith)) (λ c s. s))
          (at_set posts id j p' q to);
      loose = λ n s word. let low = s.0 in let o = t.loose n s (λ z. word (still (17 + n) (λ y. omega arith) ∙ z)) in dite (ℕ_discrete o.0 id)
          (λ e. let is : o.1 ≡ p = same_at posts id o.1 p (subst (λ (z : ℕ). get_elem? posts z ≡ some o.1) e o.2) at in
          let bad : false ≡ true = sym unpinned ∙ (sym (ap (λ (z : Post O). (view_of z.own).pinned) is) ∙ o.4) in absurd (cc))
          (λ d. (o.0, o.1, set_else posts id o.0 p' d ∙ o.2, o.3, o.4));
    }

  -- a seat without a pin takes the builder's word
  pub take_stays : get_or words builder_word 0 ≡ 0 → (view_of p'.own).stored ≡ t.counted → (view_of p'.own).counted ≡ t.counted
      → ((j : ℕ) (q : Post O) → get_elem? posts j ≡ some q → q.number ≡ p.number → j ≡ id)
      → ((j : ℕ) (q : Post O) → get_elem? posts j ≡ some q → ¬ Contains q.locks builder_word) → PoolFacts view_of k (set words builder_word p.number) (set posts id p')
  take_stays no_word stored counted apart none_has =
      let n : ℕ = t.chunks.count in
      let long = t.long in let room = t.chunks.room in let low = seat.0 in
      let w : List ℕ = set words 17 p.number in
      let here : get_or w 17 0 ≡ p.number = get_or-set_same words 17 p.number 0 (omega arith) in
      let no_pin : get_or words (17 + p.number) 0 ≡ 0 = dite (ℕ_discrete (get_or words (17 + p.number) 0) 0) (λ e. e)
      (λ ne. let o = t.loose p.number seat ne in let same = apart o.0 o.1 o.2 o.3 in
      let is : o.1 ≡ p = same_at posts id o.1 p (subst (λ (z : ℕ). get_elem? posts z ≡ some o.1) same o.2) at in
      let bad : false ≡ true = sym unpinned ∙ (sym (ap (λ (z : Post O). (view_of z.own).pinned) is) ∙ o.4) in absurd (cc)) in
      facts_but p.number
      (λ e. absurd (omega arith))
      (λ j q to has. ⊎_elim
      (λ e. subst (λ (z : Post O). IsBuilder view_of w n k.seats t.counted z) e.1 (record {
        seat = subst (λ (z : ℕ). IsSeat k.seats z) (sym number) seat;
        word = here ∙ sym number;
        names = counted;
        sized = subst (λ (z : PoolState). Sized n k.seats z) (sym stored) t.sized;
        written = subst (λ (z : PoolState). Written n k.seats w z) (sym stored) (written p.number t.counted (t.free no_word));
        unpinned = unpinned';
        no_pin = ap (λ (z : ℕ). get_or w (17 + z) 0) number ∙ (still p.number (17 + p.number) (λ z. omega arith) ∙ no_pin);
      }))
      (λ r. absurd (none_has j q r.1 has))
      (at_set posts id j p' q to))

  -- the builder frees its word, where the words are as they count
  pub free_stays : Contains p.locks builder_word → Agrees k.seats (view_of p.own).stored (view_of p.own).counted → ¬ Contains p'.locks builder_word
      → ((j : ℕ) (q : Post O) → j ≢ id → get_elem? posts j ≡ some q → ¬ Contains q.locks builder_word) → PoolFacts view_of k (set words builder_word 0) (set posts id p')
  free_stays has same no_lock alone =
      let n : ℕ = t.chunks.count in
      let b : IsBuilder view_of words n k.seats t.counted p = t.held id p at has in
      let w = b.written in
      facts_but 0
      (λ e. subst (λ (z : PoolState). Written n k.seats words z) b.names (record { states = λ c lt. w.states c lt ∙ same.states c; grace = λ m s. w.grace m s ∙ same.grace m s }))
      (λ j q to has'. ⊎_elim
      (λ e. absurd (no_lock (subst (λ (z : Post O). Contains z.locks builder_word) (sym e.1) has')))
      (λ r. absurd (alone j q r.0 r.1 has'))
      (at_set posts id j p' q to))

  -- all chunks count as they did
  pub take_stays-counted : (no_word : get_or words builder_word 0 ≡ 0) (stored : (view_of p'.own).stored ≡ t.counted) (counted : (view_of p'.own).counted ≡ t.counted)
      (apart : (j : ℕ) (q : Post O) → get_elem? posts j ≡ some q → q.number ≡ p.number → j ≡ id)
      (none_has : (j : ℕ) (q : Post O) → get_elem? posts j ≡ some q → ¬ Contains q.locks builder_word)
      → (take_stays no_word stored counted apart none_has).counted ≡ t.counted
  unfolding take_stays facts_but
  take_stays-counted no_word stored counted apart none_has = refl

  pub free_stays-counted : (has : Contains p.locks builder_word) (same : Agrees k.seats (view_of p.own).stored (view_of p.own).counted) (no_lock : ¬ Contains p'.locks builder_word)
      (alone : (j : ℕ) (q : Post O) → j ≢ id → get_elem? posts j ≡ some q → ¬ Contains q.locks builder_word) → (free_stays has same no_lock alone).counted ≡ t.counted
  unfolding free_stays facts_but
  free_stays-counted has same no_lock alone = refl
