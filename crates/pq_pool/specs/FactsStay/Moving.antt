-- The step that makes a chunk live or young keeps the facts.
use Rattle.std.proofs.Common.{◌≡◌, ◌≢◌, ℕ, suc, ◌+◌, ◌*◌, ◌<◌, ◌≤◌, true, false, List, length, get_or, set, refl, ap}
use Rattle.std.proofs.Common.{◌∙◌, sym, subst, ⊎_elim, arith, Contains, length-set, get_or-set_same, get_or-set_other}
use mathlib.Core.Option.{some}
use lib.ListN.{get_elem?}
use native.Mathlib.Decide.{ℕ_discrete}
use mathlib.Core.Logic.{dite}
use Rattle.atomic_table.proofs.Lists.{at_set, set_else}
use Rattle.pq_model.specs.Limits.{max_seats}
use Rattle.pq_model.specs.History.{IsSeat}
use Rattle.pq_seats.specs.declared.views.Limits.{Limits}
use Rattle.pq_seats.specs.declared.views.Post.{Post}
use Rattle.pq_seats.proofs.Lists.{same_at}
use Rattle.pq_pool.specs.declared.views.PoolState.{PoolState}
use Rattle.pq_pool.specs.declared.views.PoolView.{PoolView}
use Rattle.pq_pool.specs.Layout.{builder_word, next_word, state_word}
use Rattle.pq_pool.specs.States.{state_of, live_state, young_state, IsLive, IsInUse, Sized, Written}
use Rattle.pq_pool.specs.Facts.{PoolFacts, IsBuilder}
use Rattle.pq_pool.specs.Views.{with_state}
use Rattle.pq_pool.specs.FactsStay.Words.{pinned_still}

-- words of which the state of one chunk is stored
pub state_written : (chunks seats : ℕ) (words : List ℕ) (b : PoolState) (c x : ℕ) → seats ≤ max_seats → c < chunks → 50 + 69 * chunks ≤ length words → Sized chunks seats b
    → Written chunks seats words b → Written chunks seats (set words (state_word c) x) (with_state b c x)
state_written chunks seats words b c x few lt long sized w = let s_states = sized.states in record {
  states = λ e less. dite (ℕ_discrete e c)
      (λ q. ap (λ (z : ℕ). get_or (set words (118 + 69 * c) x) (118 + 69 * z) 0) q ∙ (get_or-set_same words (118 + 69 * c) x 0 (omega arith) ∙ (sym (get_or-set_same b.states c x 0 (omega arith)) ∙ ap (λ (z : ℕ). get_or (set b.states c x) z 0) (sym q))))
      (λ q. get_or-set_other words (118 + 69 * c) (118 + 69 * e) x 0 (λ z. q (omega arith)) ∙ (w.states e less ∙ sym (get_or-set_other b.states c e x 0 q)));
  grace = λ m seat. let high = seat.1 in get_or-set_other words (118 + 69 * c) (33 + m) x 0 (λ z. omega arith) ∙ w.grace m seat;
}

module _ {O : Type 0} (view_of : O → PoolView) (k : Limits) (words : List ℕ) (posts : List (Post O)) (t : PoolFacts view_of k words posts)
    (id : ℕ) (p : Post O) (at : get_elem? posts id ≡ some p) (has : Contains p.locks builder_word)
    (alone : (j : ℕ) (q : Post O) → j ≢ id → get_elem? posts j ≡ some q → ¬ Contains q.locks builder_word)
    (p' : Post O) (number : p'.number ≡ p.number) where
  -- The chunk c gets the state x, which is live or young, in the words and as it counts. It links to a live chunk, and
  -- no chunk that links to it is nearer to being in full use
  pub moved_stays : (c x : ℕ) → c < t.chunks.count → live_state ≤ x → x ≤ young_state
      → (view_of p'.own).stored ≡ with_state (view_of p.own).stored c x → (view_of p'.own).counted ≡ with_state t.counted c x → (view_of p'.own).pinned ≡ false
      → ((u : ℕ) → get_or words (next_word c) 0 ≡ suc u → (u < t.chunks.count) × (u ≢ c) × IsLive t.counted u)
      → ((e : ℕ) → e < t.chunks.count → IsInUse t.counted e → get_or words (next_word e) 0 ≡ suc c → e ≢ c → x ≤ state_of t.counted e)
      → PoolFacts view_of k (set words (state_word c) x) (set posts id p')
  moved_stays c x c_low x_low x_high stored counted unpinned own_link to_it =
      let i : ℕ = 118 + 69 * c in
      let ws = set words i x in
      let n : ℕ = t.chunks.count in
      let long = t.long in let room = t.chunks.room in let few = t.few_seats in
      let b : IsBuilder view_of words n k.seats t.counted p = t.held id p at has in
      let low = b.seat.0 in let high = b.seat.1 in
      let old = (view_of p.own).stored in
      let a = t.counted in
      let new : PoolState = with_state a c x in
      let a_long = t.sized.states in
      let other : (j : ℕ) → j ≢ i → get_or ws j 0 ≡ get_or words j 0 = λ j ne. get_or-set_other words i j x 0 ne in
      let hit : state_of new c ≡ x = get_or-set_same a.states c x 0 (omega arith) in
      let miss : (e : ℕ) → e ≢ c → state_of new e ≡ state_of a e = λ e ne. get_or-set_other a.states c e x 0 ne in
      let written : Written n k.seats ws (with_state old c x) = state_written n k.seats words old c x few c_low (omega arith) b.sized b.written in
      let sized : Sized n k.seats (with_state old c x) = record { states = length-set old.states c x ∙ b.sized.states; grace = b.sized.grace } in record {
        few_seats = t.few_seats;
        long = length-set words i x ∙ t.long;
        chunks = t.chunks;
        counted = new;
        sized = record { states = length-set a.states c x ∙ a_long; grace = t.sized.grace };
        kinds = λ e. dite (ℕ_discrete e c) (λ q. let z : state_of new e ≡ x = ap (λ (y : ℕ). state_of new y) q ∙ hit in omega arith) (λ q. let z = miss e q in let z' = t.kinds e in omega arith);
        links = λ e u lt link in_use. let link' : get_or words (115 + 69 * e) 0 ≡ suc u = sym (other (115 + 69 * e) (λ z. omega arith)) ∙ link in dite (ℕ_discrete e c)
            (λ q. let z : state_of new e ≡ x = ap (λ (y : ℕ). state_of new y) q ∙ hit in
            let l = own_link u (ap (λ (y : ℕ). get_or words (115 + 69 * y) 0) (sym q) ∙ link') in let l2 = l.2 in let m = miss u l.1 in (l.0, omega arith, omega arith))
            (λ q. let z = miss e q in let l = t.links e u lt link' (omega arith) in let l1 = l.1 in let l2 = l.2 in dite (ℕ_discrete u c)
            (λ y. let hit' : state_of new u ≡ x = ap (λ (m : ℕ). state_of new m) y ∙ hit in let r = to_it e lt (omega arith) (link' ∙ ap suc y) q in (l.0, omega arith, omega arith))
            (λ y. let m = miss u y in (l.0, omega arith, omega arith)));
        free = λ e. let z : get_or words 17 0 ≡ 0 = sym (other 17 (λ y. omega arith)) ∙ e in let z' = b.word in absurd (omega arith);
        held = λ j q to has'. ⊎_elim
            (λ e. subst (λ (z : Post O). IsBuilder view_of ws n k.seats new z) e.1 (record {
              seat = subst (λ (z : ℕ). IsSeat k.seats z) (sym number) b.seat;
              word = other 17 (λ z. omega arith) ∙ (b.word ∙ sym number);
              names = counted;
              sized = subst (λ (z : PoolState). Sized n k.seats z) (sym stored) sized;
              written = subst (λ (z : PoolState). Written n k.seats ws z) (sym stored) written;
              unpinned = unpinned;
              no_pin = ap (λ (z : ℕ). get_or ws (17 + z) 0) number ∙ (other (17 + p.number) (λ z. omega arith) ∙ b.no_pin);
            }))
            (λ r. absurd (alone j q r.0 r.1 has'))
            (at_set posts id j p' q to);
        pinned = λ j q to some_number is. ⊎_elim
            (λ e. let bad : false ≡ true = sym unpinned ∙ (ap (λ (z : Post O). (view_of z.own).pinned) e.1 ∙ is) in absurd (cc))
            (λ r. let o = t.pinned j q r.1 some_number is in let q_high = o.seat.1 in
            pinned_still n k.seats words ws view_of a q new o (other (17 + q.number) (λ z. omega arith)) (λ e s. dite (ℕ_discrete e c)
            (λ z. let hit' : state_of new e ≡ x = ap (λ (m : ℕ). state_of new m) z ∙ hit in (omega arith, λ four. absurd (omega arith)))
            (λ z. let m = miss e z in let s0 = s.0 in (omega arith, λ four. s.1 (omega arith)))))
            (at_set posts id j p' q to);
        loose = λ y seat word. let y_high = seat.1 in let o = t.loose y seat (λ z. word (other (17 + y) (λ w. omega arith) ∙ z)) in dite (ℕ_discrete o.0 id)
            (λ e. let is : o.1 ≡ p = same_at posts id o.1 p (subst (λ (z : ℕ). get_elem? posts z ≡ some o.1) e o.2) at in
            let bad : false ≡ true = sym b.unpinned ∙ (sym (ap (λ (z : Post O). (view_of z.own).pinned) is) ∙ o.4) in absurd (cc))
            (λ e. (o.0, o.1, set_else posts id o.0 p' e ∙ o.2, o.3, o.4));
      }

  -- only that state counts otherwise than before
  pub moved_stays-counted : (c x : ℕ) (lt : c < t.chunks.count) (low : live_state ≤ x) (high : x ≤ young_state)
      (stored : (view_of p'.own).stored ≡ with_state (view_of p.own).stored c x) (counted : (view_of p'.own).counted ≡ with_state t.counted c x) (unpinned : (view_of p'.own).pinned ≡ false)
      (own_link : (u : ℕ) → get_or words (next_word c) 0 ≡ suc u → (u < t.chunks.count) × (u ≢ c) × IsLive t.counted u)
      (to_it : (e : ℕ) → e < t.chunks.count → IsInUse t.counted e → get_or words (next_word e) 0 ≡ suc c → e ≢ c → x ≤ state_of t.counted e)
      → (moved_stays c x lt low high stored counted unpinned own_link to_it).counted ≡ with_state t.counted c x
  unfolding moved_stays
  moved_stays-counted c x lt low high stored counted unpinned own_link to_it = refl
