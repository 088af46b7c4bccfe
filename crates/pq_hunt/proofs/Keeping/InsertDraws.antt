-- The draws of an insert: Full, and Done at the root and below it.
use Rattle.std.proofs.Common.{◌≡◌, ◌⊎◌, ℕ, ◌/◌, ◌<◌, ◌≤◌, Bool, cond, List, [], ◌∷◌, set, inl, inr, ⊎_elim, refl, sym, ap, ◌∙◌, subst, arith, eq-eqb, ne_eqb}
use Rattle.std.specs.Prelude.{Contains}
use mathlib.Core.Option.{some}
use lib.ListN.{get_elem?}
use Rattle.pq_words.specs.declared.entries.Entry.{Entry}
use Rattle.pq_words.specs.Entries.{raw_of}
use Rattle.pq_model.specs.declared.marks.Act.TheVariants.{Insert}
use Rattle.pq_model.specs.declared.marks.Reply.TheVariants as replies
use Rattle.pq_model.specs.History.{mark, left_from, left}
use Rattle.pq_seats.specs.declared.views.Limits.{Limits}
use Rattle.pq_seats.specs.declared.views.Post.{Post}
use Rattle.pq_seats.specs.declared.views.View.{View}
use Rattle.pq_seats.specs.Batches.{Batch}
use Rattle.pq_seats.specs.Rules.{Table, Holds}
use Rattle.pq_seats.specs.Allowed.{Places}
use Rattle.pq_seats.proofs.Lists.{in_first, in_later, not_in}
use Rattle.pq_nodes.specs.Guards.{IsGuarded}
use Rattle.pq_nodes.proofs.Guarded.{guard_written}
use Rattle.pq_hunt.specs.declared.nodes.Node.{Node}
use Rattle.pq_hunt.specs.declared.nodes.Node.TheVariants.{Available, Busy}
use Rattle.pq_hunt.specs.Nodes.{node, busy_of}
use Rattle.pq_hunt.specs.Flights.{Flight}
use Rattle.pq_hunt.specs.Facts.{HeapFacts}
use Rattle.pq_hunt.proofs.Heap.Events.{event_settle, event_full}
use Rattle.pq_hunt.specs.Guards.{Guard}
use Rattle.pq_hunt.specs.declared.views.HuntPart.{HuntPart}
use Rattle.pq_hunt.specs.Layout.{heap_lock}
use Rattle.pq_nodes.specs.Views.{guard}
use Rattle.pq_hunt.specs.Batches.{entry_at, insertion, settled, after_insert}
use Rattle.pq_nodes.specs.Facts.{locks_in, words_in}
use Rattle.pq_nodes.specs.Views.{HaveNodesApart}
use Rattle.pq_hunt.specs.Ties.{HuntTied}
use Rattle.pq_hunt.specs.Rules.{hunt_rule}
use Rattle.pq_hunt.specs.LawsHold.Frames.{number_low}
use Rattle.pq_hunt.specs.LawsHold.Changes.{ps, pat}
use Rattle.pq_nodes.specs.Views.{nodes_of}
use Rattle.pq_nodes.proofs.GuardLists.{first_cases, second_cases}
use Rattle.pq_hunt.proofs.Keeping.Draws.{own_apart, draws_tie, own_idle, one_waits, fewer_waits, unchanged_guards, counts, nothing_set}
use Rattle.pq_hunt.proofs.Keeping.Draws as draws
use Rattle.pq_nodes.specs.Parts.{kind_of}
use Rattle.pq_hunt.specs.NodeParts.{hunt_nodes}

module _ (k : Limits) (s : Table HuntPart) (h : Holds hunt_rule k s) (id : ℕ) (v : View HuntPart) (at : get_elem? s.views id ≡ some v) where
  abbrev qs : List (Post HuntPart)
  qs = ps k s h id v at

  abbrev t : HuntTied k s.words qs (left h.history)
  t = h.tied

  abbrev here : get_elem? qs id ≡ some v.post
  here = pat k s h id v at

  abbrev drawn_post : Batch → HuntPart → Post HuntPart
  drawn_post = draws.drawn_post k s h id v at

  abbrev fewer : (ℕ → ℕ) → ℕ → Flight
  fewer = draws.fewer k s h id v at

  -- Full, under the heap's lock, where the size is the capacity
  pub places_full : (e : Entry) (new : ℕ) → 0 < v.post.number → v.post.owed ≡ [] → v.post.own.climbing ≡ 0 → Contains v.post.locks heap_lock → v.post.own.size_counted ≡ k.capacity
      → Places hunt_rule k id v (Insert e) (insertion 0) v.post.own new s h
  places_full e new positive owed idle locked full =
      let n : ℕ = v.post.number in
      let size_is = (t.held id v.post here locked).0 in
      let seat = number_low k s h id v at positive in
      let none_mine = own_idle k s h id v at positive idle in
      let none_waits = none_mine.0 in
      let facts : HeapFacts k.seats k.capacity k.capacity t.of t.nodes (left h.history) = subst (λ (z : ℕ). HeapFacts k.seats k.capacity z t.of t.nodes (left h.history)) (sym size_is ∙ full) t.facts in
      record {
        legal = (event_full k.seats k.capacity n t.of t.nodes (left h.history) e facts (omega arith, seat.0) none_mine.0, tt);
        apart = own_apart n;
        free = none_mine.1;
        waiting = λ x has. ⊎_elim (λ z. absurd (not_in x z)) (λ z. absurd (not_in x z)) has;
        tied = draws_tie k s h id v at (insertion 0) v.post.own (left h.history) new positive owed (record {
          same = refl;
          size = t.size;
          of = t.of;
          nodes = t.nodes;
          guarded = unchanged_guards k s h id v at (insertion 0) v.post.own refl;
          facts = t.facts;
          sized = inl (refl, refl);
          stored = refl;
          lettered = refl;
          done = idle;
          waits_not = none_mine.0;
          unlettered = none_mine.1;
          others = λ m ne. (omega arith, refl, refl);
          own_helps = refl;
          few = omega arith;
          root = inl refl;
        });
      }

  -- Done: the entry of the last guard's node has its place
  module _ (f : Guard) (e : Entry) (own : HuntPart) (has : Contains v.post.own.guards f) (busy : f.counted ≡ Busy v.post.number e) where
    abbrev settled_nodes : List Node
    settled_nodes = set t.nodes f.node (Available e)

    pub places_done : (new : ℕ) → 0 < v.post.number → v.post.owed ≡ [] → v.post.own.climbing ≡ 1
        → (f.node ≡ 1) ⊎ ((x : Entry) × (node t.nodes (f.node / 2) ≡ Available x) × (raw_of x ≤ raw_of e))
        → IsGuarded (kind_of hunt_nodes) (locks_in s.words) (words_in s.words) (set qs id (drawn_post (insertion 1) own)) settled_nodes
        → nodes_of own.guards ≡ nodes_of v.post.own.guards → own.size_counted ≡ v.post.own.size_counted → own.size_stored ≡ v.post.own.size_stored → own.lettered ≡ v.post.own.lettered → own.climbing ≡ 0
        → Places hunt_rule k id v (Insert e) (insertion 1) own new s h
    places_done new positive owed climbing may guarded same counted stored lettered done =
        let n : ℕ = v.post.number in
        let within = (t.tree.guarded.held id v.post f here has).within in
        let at_f : node t.nodes f.node ≡ Busy n e = counts k s h id v at f has ∙ busy in
        let told = t.told id v.post here positive in
        let busy_one : busy_of n (node t.nodes f.node) ≡ 1 = ap (busy_of n) at_f ∙ ap (λ (z : Bool). cond z 1 0) (eq-eqb n n refl) in
        let low = one_waits k s h id v at n f.node within in
        let most = t.facts.flown.most n in let all = told.told.told in
        let less : ℕ → ℕ = λ q. busy_of q (node t.nodes f.node) in
        let of' : ℕ → Flight = fewer less in
        let steps = event_settle k.seats k.capacity t.size t.of of' t.nodes (left h.history) f.node n e t.facts at_f may (fewer_waits k s h id v at less (λ q. one_waits k s h id v at q f.node within)) in
        record {
          legal = steps.legal;
          apart = own_apart n;
          free = omega arith;
          waiting = λ x has_x. ⊎_elim (λ z. absurd (not_in x z)) (λ z. absurd (not_in x z)) has_x;
          tied = draws_tie k s h id v at (insertion 1) own (left_from (left h.history) (mark n (Insert e) replies.Done ∷ [])) new positive owed (record {
            same = same;
            size = t.size;
            of = of';
            nodes = settled_nodes;
            guarded = guarded;
            facts = steps.facts;
            sized = inl (refl, counted);
            stored = stored;
            lettered = lettered;
            done = done;
            waits_not = omega arith;
            unlettered = omega arith;
            others = λ m ne. let none_other : busy_of m (node t.nodes f.node) ≡ 0 = ap (busy_of m) at_f ∙ ap (λ (z : Bool). cond z 1 0) (ne_eqb n m (λ q. ne (sym q))) in (omega arith, refl, refl);
            own_helps = refl;
            few = omega arith;
            root = inl refl;
          });
        }

  -- the last of one guard, and of two
  pub places_done_root : (f : Guard) (e : Entry) (new : ℕ) → v.post.own.guards ≡ f ∷ [] → f.counted ≡ Busy v.post.number e → f.node ≡ 1 → 0 < v.post.number → v.post.owed ≡ [] → v.post.own.climbing ≡ 1
      → Places hunt_rule k id v (Insert e) (insertion 1) (after_insert 1 v.post.own) new s h
  places_done_root f e new guards busy root positive owed climbing =
      let own : HuntPart = after_insert 1 v.post.own in
      let has : Contains v.post.own.guards f = subst (λ (z : List Guard). Contains z f) (sym guards) (in_first f []) in
      let f' : Guard = guard f.node f.stored (Available e) in
      let entry : entry_at f.counted ≡ e = ap entry_at busy in
      let is : own.guards ≡ f' ∷ [] = ap settled guards ∙ ap (λ (z : Entry). guard f.node f.stored (Available z) ∷ []) entry in
      let apart : HaveNodesApart (f ∷ []) = subst HaveNodesApart guards (t.tree.names id v.post here).apart in
      places_done f e own has busy new positive owed climbing (inl root)
      (guard_written (kind_of hunt_nodes) (locks_in s.words) (words_in s.words) (words_in s.words) qs t.nodes id v.post (drawn_post (insertion 1) own) f f' t.tree.guarded here has refl (nothing_set k s h id v at f has)
      (λ z at_z. ⊎_elim (λ q. inl q) (λ r. inr (r.0, subst (λ (l : List Guard). Contains l z) (sym guards) r.1)) (first_cases f f' [] refl apart z (subst (λ (l : List Guard). Contains l z) is at_z))))
      (ap nodes_of is ∙ sym (ap nodes_of guards)) refl refl refl refl

  pub places_done_below : (g f : Guard) (x e : Entry) (new : ℕ) → v.post.own.guards ≡ g ∷ f ∷ [] → g.counted ≡ Available x → raw_of x ≤ raw_of e → f.counted ≡ Busy v.post.number e → f.node / 2 ≡ g.node
      → 0 < v.post.number → v.post.owed ≡ [] → v.post.own.climbing ≡ 1
      → Places hunt_rule k id v (Insert e) (insertion 1) (after_insert 1 v.post.own) new s h
  places_done_below g f x e new guards above under busy child positive owed climbing =
      let own : HuntPart = after_insert 1 v.post.own in
      let has_g : Contains v.post.own.guards g = subst (λ (z : List Guard). Contains z g) (sym guards) (in_first g (f ∷ [])) in
      let has : Contains v.post.own.guards f = subst (λ (z : List Guard). Contains z f) (sym guards) (in_later g f (f ∷ []) (in_first f [])) in
      let f' : Guard = guard f.node f.stored (Available e) in
      let entry : entry_at f.counted ≡ e = ap entry_at busy in
      let is : own.guards ≡ g ∷ f' ∷ [] = ap settled guards ∙ ap (λ (z : Entry). g ∷ guard f.node f.stored (Available z) ∷ []) entry in
      let apart : HaveNodesApart (g ∷ f ∷ []) = subst HaveNodesApart guards (t.tree.names id v.post here).apart in
      places_done f e own has busy new positive owed climbing (inr (x, ap (node t.nodes) child ∙ (counts k s h id v at g has_g ∙ above), under))
      (guard_written (kind_of hunt_nodes) (locks_in s.words) (words_in s.words) (words_in s.words) qs t.nodes id v.post (drawn_post (insertion 1) own) f f' t.tree.guarded here has refl (nothing_set k s h id v at f has)
      (λ z at_z. ⊎_elim (λ q. inl q) (λ r. inr (r.0, subst (λ (l : List Guard). Contains l z) (sym guards) r.1)) (second_cases g f f' [] refl apart z (subst (λ (l : List Guard). Contains l z) is at_z))))
      (ap nodes_of is ∙ sym (ap nodes_of guards)) refl refl refl refl
