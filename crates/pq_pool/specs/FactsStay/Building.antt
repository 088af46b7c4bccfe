-- The builder's steps that leave the live chunks keep the facts.
use Rattle.std.proofs.Common.{◌≡◌, ◌≢◌, ◌⊎◌, ℕ, ◌+◌, ◌<◌, ◌≤◌, true, false, List, get_or, set, refl, ap, ◌∙◌, sym}
use Rattle.std.proofs.Common.{subst, ⊎_elim, arith, Contains}
use mathlib.Core.Option.{some}
use lib.ListN.{get_elem?}
use native.Mathlib.Decide.{ℕ_discrete}
use mathlib.Core.Logic.{dite}
use Rattle.atomic_table.proofs.Lists.{at_set, set_else}
use Rattle.pq_model.specs.History.{IsSeat}
use Rattle.pq_seats.specs.declared.views.Limits.{Limits}
use Rattle.pq_seats.specs.declared.views.Post.{Post}
use Rattle.pq_seats.proofs.Lists.{same_at}
use Rattle.pq_pool.specs.declared.views.PoolState.{PoolState}
use Rattle.pq_pool.specs.declared.views.PoolView.{PoolView}
use Rattle.pq_pool.specs.Layout.{builder_word, pin_word, next_word}
use Rattle.pq_pool.specs.States.{state_of, IsInUse, IsSafe}
use Rattle.pq_pool.specs.Facts.{PoolFacts, IsBuilder}
use Rattle.pq_pool.specs.Builds.{Builds, Rests, Turns}
use Rattle.pq_pool.specs.FactsStay.Words.{turned_cases, low_not_swept, next_not_swept, pinned_still}

-- What the two kinds of change do to a state, a link and who is safe
module _ (seats builder : ℕ) (words : List ℕ) (a b : PoolState) (kinds : (c : ℕ) → state_of a c ≤ 4) (m : Rests seats words a b ⊎ Turns seats builder a b) where
  pub kinds_after : (c : ℕ) → state_of b c ≤ 4
  kinds_after c = let old = kinds c in ⊎_elim
      (λ r. ⊎_elim (λ e. omega arith) (λ e. let x = e.1 in omega arith) (r.states c))
      (λ r. let e = r.states c in ⊎_elim (λ z. let z' = z.1 in omega arith) (λ z. ⊎_elim (λ y. let y' = y.1 in omega arith) (λ y. let y' = y.1 in omega arith) z) (turned_cases (state_of a c) old))
      m

  -- a chunk that is in use was
  was_in_use : (c : ℕ) → IsInUse b c → IsInUse a c
  was_in_use c h = ⊎_elim
      (λ r. ⊎_elim (λ e. omega arith) (λ e. let e' = e.1 in absurd (omega arith)) (r.states c))
      (λ r. let e = r.states c in ⊎_elim (λ z. let z' = z.1 in omega arith) (λ z. ⊎_elim (λ y. let y' = y.0 in omega arith) (λ y. let y' = y.1 in absurd (omega arith)) z) (turned_cases (state_of a c) (kinds c)))
      m

  -- where one links to another that was no further from being freed, it still does
  link_after : (c u : ℕ) → IsInUse b c → IsInUse a u → state_of a u ≤ state_of a c → IsInUse b u × (state_of b u ≤ state_of b c)
  link_after c u in_use l1 l2 = ⊎_elim
      (λ r. ⊎_elim
      (λ e. ⊎_elim (λ f. (omega arith, omega arith)) (λ f. let f' = f.0 in absurd (omega arith)) (r.states u))
      (λ e. let e' = e.1 in absurd (omega arith))
      (r.states c))
      (λ r. let e = r.states c in let f = r.states u in let ku = kinds u in ⊎_elim
      (λ z. let z0 = z.0 in let z1 = z.1 in ⊎_elim (λ y. let y1 = y.1 in (omega arith, omega arith)) (λ y. ⊎_elim (λ x. let x0 = x.0 in absurd (omega arith)) (λ x. let x0 = x.0 in absurd (omega arith)) y) (turned_cases (state_of a u) ku))
      (λ z. ⊎_elim
      (λ w. let w0 = w.0 in let w1 = w.1 in ⊎_elim (λ y. let y1 = y.1 in (omega arith, omega arith)) (λ y. ⊎_elim (λ x. let x1 = x.1 in (omega arith, omega arith)) (λ x. let x0 = x.0 in absurd (omega arith)) y) (turned_cases (state_of a u) ku))
      (λ w. let w1 = w.1 in absurd (omega arith))
      z)
      (turned_cases (state_of a c) (kinds c)))
      m

  -- and a pinned seat, which is not the builder, is still safe
  pub safe_after : (n : ℕ) → IsSeat seats n → n ≢ builder → get_or words (pin_word n) 0 ≡ 1 → (c : ℕ) → IsSafe a n c → IsSafe b n c
  safe_after n seat other word c s = let s1 = s.0 in ⊎_elim
      (λ u. ⊎_elim
      (λ e. (omega arith, λ four. ⊎_elim (λ f. let g = s.1 (omega arith) in λ z. g (sym f ∙ z)) (λ f. absurd (omega arith)) (u.grace n seat)))
      (λ e. let e0 = e.0 in absurd (omega arith))
      (u.states c))
      (λ u. let e = u.states c in ⊎_elim
      (λ z. let z0 = z.0 in let z1 = z.1 in (omega arith, λ four. absurd (omega arith)))
      (λ z. ⊎_elim (λ y. let y1 = y.1 in (omega arith, λ four. u.grace n seat other)) (λ y. absurd (s.1 y.0 (u.cleared n seat))) z)
      (turned_cases (state_of a c) (kinds c)))
      m

module _ {O : Type 0} (view_of : O → PoolView) (k : Limits) (words : List ℕ) (posts : List (Post O)) (t : PoolFacts view_of k words posts)
    (id : ℕ) (p : Post O) (at : get_elem? posts id ≡ some p) (has : Contains p.locks builder_word)
    (alone : (j : ℕ) (q : Post O) → j ≢ id → get_elem? posts j ≡ some q → ¬ Contains q.locks builder_word)
    (p' : Post O) (number : p'.number ≡ p.number) where
  pub builds_stays : (words' : List ℕ) → Builds t.chunks.count k.seats p.number words words' (view_of p.own) (view_of p'.own) → PoolFacts view_of k words' (set posts id p')
  builds_stays words' B =
      let n : ℕ = t.chunks.count in
      let b : IsBuilder view_of words n k.seats t.counted p = t.held id p at has in
      let d = view_of p'.own in
      let a = t.counted in
      let few = t.few_seats in
      let low = b.seat.0 in let high = b.seat.1 in
      let m : Rests k.seats words a d.counted ⊎ Turns k.seats p.number a d.counted = subst (λ (z : PoolState). Rests k.seats words z d.counted ⊎ Turns k.seats p.number z d.counted) b.names B.moves in
      let under : (i : ℕ) → i < 34 → get_or words' i 0 ≡ get_or words i 0 = λ i lt. B.others i (low_not_swept n k.seats i lt) in
      let mine : get_or words' builder_word 0 ≡ p'.number = under 17 (omega arith) ∙ (b.word ∙ sym number) in record {
        few_seats = t.few_seats;
        long = B.long ∙ t.long;
        chunks = t.chunks;
        counted = d.counted;
        sized = B.counted;
        kinds = kinds_after k.seats p.number words a d.counted t.kinds m;
        links = λ c u lt link in_use.
            let l = t.links c u lt (sym (B.others (next_word c) (next_not_swept n k.seats few c)) ∙ link) (was_in_use k.seats p.number words a d.counted t.kinds m c in_use) in
            let r = link_after k.seats p.number words a d.counted t.kinds m c u in_use l.1 l.2 in (l.0, r.0, r.1);
        free = λ e. absurd (omega arith);
        held = λ j q to has'. ⊎_elim
            (λ e. subst (λ (z : Post O). IsBuilder view_of words' n k.seats d.counted z) e.1 (record {
              seat = subst (λ (z : ℕ). IsSeat k.seats z) (sym number) b.seat;
              word = mine;
              names = refl;
              sized = B.stored;
              written = B.written;
              unpinned = B.pin.0 ∙ b.unpinned;
              no_pin = ap (λ (z : ℕ). get_or words' (17 + z) 0) number ∙ (under (17 + p.number) (omega arith) ∙ b.no_pin);
            }))
            (λ r. absurd (alone j q r.0 r.1 has'))
            (at_set posts id j p' q to);
        pinned = λ j q to some_number is. ⊎_elim
            (λ e. let bad : false ≡ true = sym (B.pin.0 ∙ b.unpinned) ∙ (ap (λ (z : Post O). (view_of z.own).pinned) e.1 ∙ is) in absurd (cc))
            (λ r. let o = t.pinned j q r.1 some_number is in let word = o.word in let q_high = o.seat.1 in
            let other : q.number ≢ p.number = λ z. let none = b.no_pin in let none' : get_or words (17 + q.number) 0 ≡ 0 = ap (λ (y : ℕ). get_or words (17 + y) 0) z ∙ none in omega arith in
            pinned_still n k.seats words words' view_of a q d.counted o (under (17 + q.number) (omega arith)) (safe_after k.seats p.number words a d.counted t.kinds m q.number o.seat other word))
            (at_set posts id j p' q to);
        loose = λ x seat word. let x_high = seat.1 in let o = t.loose x seat (λ z. word (under (17 + x) (omega arith) ∙ z)) in dite (ℕ_discrete o.0 id)
            (λ e. let is : o.1 ≡ p = same_at posts id o.1 p (subst (λ (z : ℕ). get_elem? posts z ≡ some o.1) e o.2) at in
            let bad : false ≡ true = sym b.unpinned ∙ (sym (ap (λ (z : Post O). (view_of z.own).pinned) is) ∙ o.4) in absurd (cc))
            (λ e. (o.0, o.1, set_else posts id o.0 p' e ∙ o.2, o.3, o.4));
      }

  -- the states and bits count as the builder's view then names them
  pub builds_stays-counted : (words' : List ℕ) (B : Builds t.chunks.count k.seats p.number words words' (view_of p.own) (view_of p'.own))
      → (builds_stays words' B).counted ≡ (view_of p'.own).counted
  unfolding builds_stays
  builds_stays-counted words' B = refl
