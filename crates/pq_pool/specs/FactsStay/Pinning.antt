-- A pin and its end keep the facts.
use Rattle.std.proofs.Common.{◌≡◌, ◌≢◌, ℕ, ◌+◌, ◌*◌, ◌<◌, true, false, List, get_or, set, refl, ap, ◌∙◌, sym, subst}
use Rattle.std.proofs.Common.{⊎_elim, arith, Contains, length-set, get_or-set_same, get_or-set_other}
use mathlib.Core.Option.{some}
use lib.ListN.{get_elem?}
use native.Mathlib.Decide.{ℕ_discrete}
use mathlib.Core.Logic.{dite}
use Rattle.atomic_table.proofs.Lists.{at_set, set_else}
use Rattle.pq_model.specs.History.{IsSeat}
use Rattle.pq_seats.specs.declared.views.Limits.{Limits}
use Rattle.pq_seats.specs.declared.views.Post.{Post}
use Rattle.pq_seats.proofs.Lists.{same_at, put_here}
use Rattle.pq_pool.specs.declared.views.PoolState.{PoolState}
use Rattle.pq_pool.specs.declared.views.PoolView.{PoolView}
use Rattle.pq_pool.specs.Layout.{builder_word, pin_word}
use Rattle.pq_pool.specs.States.{IsSafe, Written}
use Rattle.pq_pool.specs.Facts.{PoolFacts, IsPinned, IsBuilder}
use Rattle.pq_pool.specs.Views.{pinned_on}
use Rattle.pq_pool.specs.FactsStay.Words.{written_still, builder_still, pinned_still}

module _ {O : Type 0} (view_of : O → PoolView) (k : Limits) (words : List ℕ) (posts : List (Post O)) (t : PoolFacts view_of k words posts)
    (id : ℕ) (p : Post O) (at : get_elem? posts id ≡ some p) (seat : IsSeat k.seats p.number)
    (apart : (j : ℕ) (q : Post O) → get_elem? posts j ≡ some q → q.number ≡ p.number → j ≡ id)
    (no_lock : ¬ Contains p.locks builder_word)
    (p' : Post O) (number : p'.number ≡ p.number) (locks : p'.locks ≡ p.locks) where
  -- what the pin word of the seat becomes, and nothing else
  module _ (x : ℕ) where
    abbrev ws : List ℕ
    ws = set words (pin_word p.number) x

    still : (j : ℕ) → j ≢ 17 + p.number → get_or ws j 0 ≡ get_or words j 0
    still j ne = get_or-set_other words (17 + p.number) j x 0 ne

    here : get_or ws (17 + p.number) 0 ≡ x
    here = let long = t.long in let room = t.chunks.room in let few = t.few_seats in let high = seat.1 in get_or-set_same words (17 + p.number) x 0 (omega arith)

    other_seat : (j : ℕ) (q : Post O) → j ≢ id → get_elem? posts j ≡ some q → q.number ≢ p.number
    other_seat j q ne to e = ne (apart j q to e)

    written : (b : PoolState) → Written t.chunks.count k.seats words b → Written t.chunks.count k.seats ws b
    written b w = let few = t.few_seats in let low = seat.0 in let high = seat.1 in
        written_still t.chunks.count k.seats words ws b (λ c lt. still (118 + 69 * c) (λ z. omega arith)) (λ n s. let n_low = s.0 in still (33 + n) (λ z. omega arith)) w

    held : (j : ℕ) (q : Post O) → get_elem? (set posts id p') j ≡ some q → Contains q.locks builder_word → IsBuilder view_of ws t.chunks.count k.seats t.counted q
    held j q to has = let low = seat.0 in ⊎_elim
        (λ e. absurd (no_lock (subst (λ (z : List ℕ). Contains z builder_word) locks (subst (λ (z : Post O). Contains z.locks builder_word) (sym e.1) has))))
        (λ r. let ne = other_seat j q r.0 r.1 in
        builder_still t.chunks.count k.seats words ws view_of t.counted q (t.held j q r.1 has) (still 17 (λ z. omega arith)) (still (17 + q.number) (λ z. ne (omega arith))) (written (view_of q.own).stored))
        (at_set posts id j p' q to)

    others_pinned : (j : ℕ) (q : Post O) → j ≢ id → get_elem? posts j ≡ some q → 0 < q.number → (view_of q.own).pinned ≡ true → IsPinned view_of ws t.chunks.count k.seats t.counted q
    others_pinned j q ne to positive is = let apart' = other_seat j q ne to in
        pinned_still t.chunks.count k.seats words ws view_of t.counted q t.counted (t.pinned j q to positive is) (still (17 + q.number) (λ z. apart' (omega arith))) (λ c s. s)

    abbrev Loose : ℕ → Type 0
    Loose n = (j : ℕ) × (q : Post O) × (get_elem? (set posts id p') j ≡ some q) × (q.number ≡ n) × ((view_of q.own).pinned ≡ true)

    others_loose : (n : ℕ) → IsSeat k.seats n → n ≢ p.number → get_or ws (pin_word n) 0 ≢ 0 → Loose n
    others_loose n s ne word = let o = t.loose n s (λ z. word (still (17 + n) (λ y. ne (omega arith)) ∙ z)) in dite (ℕ_discrete o.0 id)
        (λ e. let is : o.1 ≡ p = same_at posts id o.1 p (subst (λ (z : ℕ). get_elem? posts z ≡ some o.1) e o.2) at in absurd (ne (sym o.3 ∙ ap (λ (z : Post O). z.number) is)))
        (λ d. (o.0, o.1, set_else posts id o.0 p' d ∙ o.2, o.3, o.4))

    -- the facts of all seats but what the pin word and the view of this one say
    facts_but : ((j : ℕ) (q : Post O) → get_elem? (set posts id p') j ≡ some q → 0 < q.number → (view_of q.own).pinned ≡ true → IsPinned view_of ws t.chunks.count k.seats t.counted q)
        → ((n : ℕ) → IsSeat k.seats n → get_or ws (pin_word n) 0 ≢ 0 → Loose n) → PoolFacts view_of k ws (set posts id p')
    facts_but pinned loose = let low = seat.0 in let few = t.few_seats in let high = seat.1 in record {
      few_seats = t.few_seats;
      long = length-set words (17 + p.number) x ∙ t.long;
      chunks = t.chunks;
      counted = t.counted;
      sized = t.sized;
      kinds = t.kinds;
      links = λ c u lt link. t.links c u lt (sym (still (115 + 69 * c) (λ z. omega arith)) ∙ link);
      free = λ e. written t.counted (t.free (sym (still 17 (λ z. omega arith)) ∙ e));
      held = held;
      pinned = pinned;
      loose = loose;
    }

  -- a seat pins itself, on chunks that are safe for it
  pub pin_stays : (stands : List ℕ) → view_of p'.own ≡ pinned_on (view_of p.own) stands → ((c : ℕ) → Contains stands c → (c < t.chunks.count) × IsSafe t.counted p.number c)
      → PoolFacts view_of k (set words (pin_word p.number) 1) (set posts id p')
  pin_stays stands view safe = facts_but 1
      (λ j q to positive is. ⊎_elim
      (λ e. subst (λ (z : Post O). IsPinned view_of (ws 1) t.chunks.count k.seats t.counted z) e.1 (record {
        seat = subst (λ (z : ℕ). IsSeat k.seats z) (sym number) seat;
        word = ap (λ (z : ℕ). get_or (ws 1) (17 + z) 0) number ∙ here 1;
        safe = λ c on. subst (λ (z : ℕ). (c < t.chunks.count) × IsSafe t.counted z c) (sym number) (safe c (subst (λ (z : PoolView). Contains z.stands c) view on));
      }))
      (λ r. others_pinned 1 j q r.0 r.1 positive is)
      (at_set posts id j p' q to))
      (λ n s word. dite (ℕ_discrete n p.number)
      (λ e. (id, p', put_here posts id p p' at, number ∙ sym e, ap (λ (z : PoolView). z.pinned) view))
      (λ ne. others_loose 1 n s ne word))

  -- all chunks count as they did
  pub pin_stays-counted : (stands : List ℕ) (view : view_of p'.own ≡ pinned_on (view_of p.own) stands) (safe : (c : ℕ) → Contains stands c → (c < t.chunks.count) × IsSafe t.counted p.number c)
      → (pin_stays stands view safe).counted ≡ t.counted
  unfolding pin_stays facts_but
  pin_stays-counted stands view safe = refl

  -- and ends its pin
  pub unpin_stays : (view_of p'.own).pinned ≡ false → PoolFacts view_of k (set words (pin_word p.number) 0) (set posts id p')
  unpin_stays view = facts_but 0
      (λ j q to positive is. ⊎_elim
      (λ e. let bad : false ≡ true = sym view ∙ (ap (λ (z : Post O). (view_of z.own).pinned) e.1 ∙ is) in absurd (cc))
      (λ r. others_pinned 0 j q r.0 r.1 positive is)
      (at_set posts id j p' q to))
      (λ n s word. dite (ℕ_discrete n p.number)
      (λ e. absurd (word (ap (λ (z : ℕ). get_or (ws 0) (17 + z) 0) e ∙ here 0)))
      (λ ne. others_loose 0 n s ne word))

  pub unpin_stays-counted : (view : (view_of p'.own).pinned ≡ false) → (unpin_stays view).counted ≡ t.counted
  unfolding unpin_stays facts_but
  unpin_stays-counted view = refl
