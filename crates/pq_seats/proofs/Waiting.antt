-- A seat that waits for its insert in flight, and calls that a view gains.
use Rattle.std.proofs.Common.{◌≡◌, ◌⊎◌, ⊎_elim, Some, ℕ, ◌+◌, ◌-◌, ◌<◌, ◌≤◌, List, [], ◌∷◌, ◌++◌, map, length, sym, refl, ap, ◌∙◌, subst, arith, Contains, sum_by}
use mathlib.Core.Option.{some}
use lib.ListN.{get_elem?}
use Rattle.pq_words.specs.declared.entries.Entry.{Entry}
use Rattle.pq_model.specs.declared.passes.Call.{Call}
use Rattle.pq_model.specs.declared.passes.Lane.{Lane}
use Rattle.pq_model.specs.History.{IsSeat}
use Rattle.pq_model.specs.Passes.{lane, calls_of, with_call, IsBehind}
use Rattle.pq_model.proofs.Fronts.{IsBehind-call}
use Rattle.pq_api.specs.Limits.{call_limit}
use Rattle.pq_seats.specs.declared.views.Limits.{Limits}
use Rattle.pq_seats.specs.declared.views.Post.{Post}
use Rattle.pq_seats.specs.declared.views.View.{View}
use Rattle.pq_seats.specs.Views.{HasFirst, first_calls, later_lanes, add_call, known_of, post_of}
use Rattle.pq_seats.specs.Letters.{owed_count, owed_sum, letter_count}
use Rattle.pq_seats.specs.Batches.{letters_of}
use Rattle.pq_seats.specs.Rules.{Table, Rule, Holds, Stands}
use Rattle.pq_seats.specs.Allowed.{Waits}
use Rattle.pq_seats.proofs.Lists.{at_unmap, same_at, in_first, in_later, in_cases, not_in, calls-add_call, later-add_call}
use Rattle.pq_seats.proofs.Marks.{none_sum}
use Rattle.std.proofs.lemmas.List.Sums.{sum_by-cons}
use Rattle.pq_seats.proofs.Keeps.{apart, own_lane, number_in, unlettered}

-- where no letters are owed, they add up to nothing
pub no_sum : {O : Type 0} (m : ℕ) (ps : List (Post O)) → sum_by (λ (p : Post O). owed_count m p.owed) ps ≡ 0 → sum_by (λ (p : Post O). owed_sum m p.owed) ps ≡ 0
no_sum m [] e = refl
no_sum {O} m (p ∷ ps) e = let c = sum_by-cons (λ (q : Post O). owed_count m q.owed) p ps in let d = sum_by-cons (λ (q : Post O). owed_sum m q.owed) p ps in
    let a = none_sum m p.owed (omega arith) in let r = no_sum m ps (omega arith) in omega arith

-- each letter of a list is for the owner of one of the inserts, and is not 0
pub letter_in : (hs : List (ℕ × Entry)) (from : ℕ) (z : ℕ × ℕ) → Contains (letters_of from hs) z → (y : ℕ × Entry) × Contains hs y × (y.0 ≡ z.0) × (0 < z.1)
letter_in [] from z has = absurd (not_in z has)
letter_in (y ∷ ys) from z has = ⊎_elim
    (λ e. let late : from + 1 ≡ z.1 = ap (λ (q : ℕ × ℕ). q.1) e in (y, in_first y ys, ap (λ (q : ℕ × ℕ). q.0) e, omega arith))
    (λ t. let r = letter_in ys (from + 1) z t in (r.0, in_later y r.0 ys r.1, r.2, r.3))
    (in_cases (y.0, from + 1) z (letters_of (from + 1) ys) has)

-- which lane has a number after a call more in the first
pub made_cases : (n : ℕ) (ls : List Lane) (c : Call) (f : HasFirst n ls) (y : Lane) → Contains (add_call ls c) y → (lane n (f.0 ++ c ∷ []) ≡ y) ⊎ Contains f.1 y
made_cases n ls c f y has = in_cases (lane n (f.0 ++ c ∷ [])) y f.1 (subst (λ (z : List Lane). Contains (add_call z c) y) f.2 has)

pub later_in : (n : ℕ) (ls : List Lane) (f : HasFirst n ls) (y : Lane) → Contains f.1 y → Contains ls y
later_in n ls f y has = subst (λ (z : List Lane). Contains z y) (sym f.2) (in_later (lane n f.0) y f.1 has)

module _ {O : Type 0} where
  -- a call more is what the pass means by it
  pub known_made : (v w : View O) (c : Call) → HasFirst v.post.number v.lanes → w.lanes ≡ add_call v.lanes c → w.front ≡ c.place + 1 → w.post.number ≡ v.post.number
      → known_of w ≡ with_call (known_of v) c.place c.act c.reply
  known_made v w c first lanes front number = λ i. record {
    number = number i;
    calls = (ap first_calls lanes ∙ calls-add_call v.post.number v.lanes c first) i;
    front = front i;
    joined = (ap later_lanes lanes ∙ later-add_call v.lanes c) i;
  }

  pub behind_made : (v w : View O) (c : Call) → HasFirst v.post.number v.lanes → w.lanes ≡ add_call v.lanes c → w.front ≡ c.place + 1 → w.post.number ≡ v.post.number
      → v.front ≤ c.place → IsBehind (known_of v) → IsBehind (known_of w)
  behind_made v w c first lanes front number le behind =
      subst IsBehind (sym (known_made v w c first lanes front number)) (IsBehind-call (known_of v) c.place c.act c.reply le behind)

module _ {O : Type 0} (R : Rule O) (k : Limits) (s : Table O) (h : Holds R k s) where
  abbrev ps : List (Post O)
  ps = map post_of s.views

  -- the view of the seat that waits
  pub waiter : (m : ℕ) (e : Entry) (t : Waits s m e) → (u : View O) × Stands R s t.id u × (u.post.number ≡ m) × (u.post.flight ≡ Some e)
  waiter m e t = let q = at_unmap post_of s.views t.id t.post t.stands in
      (q.0, q.1, ap (λ (p : Post O). p.number) q.2 ∙ t.number, ap (λ (p : Post O). p.flight) q.2 ∙ t.flight)

  -- who has the lane of that number waits for that insert
  pub waiter_lane : (m : ℕ) (e : Entry) (t : Waits s m e) (j : ℕ) (u : View O) (y : Lane) → Stands R s j u → Contains u.lanes y → y.number ≡ m → (u.post.number ≡ m) × (u.post.flight ≡ Some e)
  waiter_lane m e t j u y to hy is =
      let q = waiter m e t in
      let f = (h.each t.id q.0 q.1).first (λ z. t.seated (sym q.2 ∙ z)) in
      let same : t.id ≡ j = apart R k s h j t.id u q.0 y (lane q.0.post.number f.0) to q.1 hy (own_lane R k q.0 f) (is ∙ sym q.2) in
      let one : q.0 ≡ u = same_at s.views j q.0 u (subst (λ (z : ℕ). get_elem? s.views z ≡ some q.0) same q.1) to in
      (ap (λ (z : View O). z.post.number) (sym one) ∙ q.2, ap (λ (z : View O). z.post.flight) (sym one) ∙ q.3)

  pub waiter_in : (m : ℕ) (e : Entry) (t : Waits s m e) → IsSeat k.seats m
  waiter_in m e t = let q = waiter m e t in subst (λ (z : ℕ). IsSeat k.seats z) q.2 (number_in R k s h t.id q.0 q.1 (λ z. t.seated (sym q.2 ∙ z)))

  -- and has made few calls
  pub waiter_room : (m : ℕ) (e : Entry) (t : Waits s m e) → length (calls_of m h.history) < call_limit - 1
  waiter_room m e t =
      let q = waiter m e t in let g = h.each t.id q.0 q.1 in let n = q.0.post.number in
      let f = g.first (λ z. t.seated (sym q.2 ∙ z)) in
      let none : letter_count n s.words ps ≡ 0 = subst (λ (z : ℕ). letter_count z s.words ps ≡ 0) (sym q.2) t.unwritten in
      let kept : calls_of n h.history ≡ f.0 = unlettered n q.0.front q.0.post.flight (lane n f.0) (calls_of n h.history) _ _ (g.calls (lane n f.0) (own_lane R k q.0 f)) none in
      let mine : first_calls q.0.lanes ≡ f.0 = ap first_calls f.2 in
      subst (λ (z : ℕ). length (calls_of z h.history) < call_limit - 1) q.2
      (subst (λ (z : List Call). length z < call_limit - 1) (mine ∙ sym kept) (g.room e q.3))
