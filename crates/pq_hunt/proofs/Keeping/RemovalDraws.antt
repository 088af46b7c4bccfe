-- The draws of a removal: Empty, Got and Above, each with the inserts that it places for others.
use Rattle.std.proofs.Common.{◌≡◌, ℕ, ◌+◌, ◌-◌, ◌<◌, ◌≤◌, cond, eqb, List, [], ◌∷◌, ◌++◌, length, set, inl, inr, ⊎_elim, refl, sym, ap, ◌∙◌, subst, arith}
use Rattle.std.specs.Prelude.{Contains}
use mathlib.Core.Option.{some}
use lib.ListN.{get_elem?}
use native.Mathlib.Decide.{ℕ_discrete}
use mathlib.Core.Logic.{dite}
use Rattle.pq_words.specs.declared.entries.Entry.{Entry}
use Rattle.pq_model.specs.declared.marks.Act.{Act}
use Rattle.pq_model.specs.declared.marks.Act.TheVariants.{Insert, Remove, RemoveBelow}
use Rattle.pq_model.specs.declared.marks.Reply.TheVariants as replies
use Rattle.pq_model.specs.declared.marks.Mark.{Mark}
use Rattle.pq_model.specs.History.{mark, left_from, left}
use Rattle.pq_seats.specs.declared.views.Limits.{Limits}
use Rattle.pq_seats.specs.declared.views.Post.{Post}
use Rattle.pq_seats.specs.declared.views.View.{View}
use Rattle.pq_seats.specs.Batches.{Batch, marks_of}
use Rattle.pq_seats.specs.Rules.{Table, Holds}
use Rattle.pq_seats.specs.Allowed.{helps, Places}
use Rattle.pq_seats.proofs.Lists.{test_same, test_other, in_first, in_later, not_in}
use Rattle.pq_nodes.specs.Guards.{IsGuarded}
use Rattle.pq_nodes.proofs.Guarded.{guard_written, guards_written}
use Rattle.pq_hunt.specs.declared.nodes.Node.{Node}
use Rattle.pq_hunt.specs.declared.nodes.Node.TheVariants.{Empty, Available, Busy, Hole}
use Rattle.pq_hunt.specs.Nodes.{node, busy_of}
use Rattle.pq_hunt.specs.Order.{HasWord}
use Rattle.pq_hunt.specs.Flights.{Flight}
use Rattle.pq_hunt.specs.Facts.{HeapFacts, StepsTo}
use Rattle.pq_hunt.specs.Marks.{IsRemoval, MayGet, drawn_marks, last_marks, above_marks}
use Rattle.pq_hunt.proofs.Heap.Events.{event_draw, event_draw_last, event_empty, event_above}
use Rattle.pq_hunt.specs.Guards.{Guard}
use Rattle.pq_hunt.specs.declared.views.HuntPart.{HuntPart}
use Rattle.pq_hunt.specs.Layout.{heap_lock}
use Rattle.pq_nodes.specs.Views.{guard}
use Rattle.pq_hunt.specs.Views.{with_guards}
use Rattle.pq_hunt.specs.Batches.{entry_at, flight_at, removal, settled, emptied, after_removal}
use Rattle.pq_nodes.specs.Facts.{locks_in, words_in}
use Rattle.pq_nodes.specs.Views.{HaveNodesApart}
use Rattle.pq_hunt.specs.Ties.{HuntTied}
use Rattle.pq_hunt.specs.Rules.{hunt_rule}
use Rattle.pq_hunt.specs.LawsHold.Changes.{ps, pat}
use Rattle.pq_nodes.specs.Views.{nodes_of}
use Rattle.pq_nodes.proofs.GuardLists.{apart_same, first_cases, second_cases}
use Rattle.pq_hunt.proofs.Keeping.Draws.{marks_flight, helps_flight, has_entry, in_flight, own_apart, waits_for, draws_tie, own_idle, one_waits, two_wait, fewer_waits, unchanged_guards, counts, nothing_set}
use Rattle.pq_hunt.proofs.Keeping.Draws as draws
use Rattle.pq_nodes.specs.Parts.{kind_of}
use Rattle.pq_hunt.specs.NodeParts.{hunt_nodes}

-- the marks that one batch places, as the heap's events list them
marks_are : (n : ℕ) (act : Act) (r l : Node) (e : Entry) → entry_at r ≡ e
    → marks_of n act (record { before = flight_at r; reply = replies.Got (entry_at r); after = flight_at l }) ≡ drawn_marks n act e r l
marks_are n act r l e is = λ j. marks_flight r j ++ mark n act (replies.Got (is j)) ∷ marks_flight l j

few_flights : (v : Node) → length (flight_at v) ≤ 1
few_flights Empty = omega arith
few_flights (Available e) = omega arith
few_flights (Busy o e) = omega arith
few_flights (Hole e) = omega arith

module _ (k : Limits) (s : Table HuntPart) (h : Holds hunt_rule k s) (id : ℕ) (v : View HuntPart) (at : get_elem? s.views id ≡ some v) where
  abbrev qs : List (Post HuntPart)
  qs = ps k s h id v at

  abbrev t : HuntTied k s.words qs (left h.history)
  t = h.tied

  abbrev here : get_elem? qs id ≡ some v.post
  here = pat k s h id v at

  abbrev drawn_post : Batch → HuntPart → Post HuntPart
  drawn_post = draws.drawn_post k s h id v at

  abbrev fewer : (ℕ → ℕ) → ℕ → Flight
  fewer = draws.fewer k s h id v at

  -- Empty, under the heap's lock, where the size is 0
  pub places_empty : (act : Act) (new : ℕ) → IsRemoval act → 0 < v.post.number → v.post.owed ≡ [] → v.post.own.climbing ≡ 0 → Contains v.post.locks heap_lock → v.post.own.size_counted ≡ 0
      → (own : HuntPart) → own ≡ v.post.own → Places hunt_rule k id v act (removal []) own new s h
  places_empty act new removes positive owed idle locked none_there own own_is =
      let n : ℕ = v.post.number in
      let size_is = (t.held id v.post here locked).0 in
      let none_mine = own_idle k s h id v at positive idle in
      let facts : HeapFacts k.seats k.capacity 0 t.of t.nodes (left h.history) = subst (λ (z : ℕ). HeapFacts k.seats k.capacity z t.of t.nodes (left h.history)) (sym size_is ∙ none_there) t.facts in
      let left_is : left_from (left h.history) (marks_of n act (removal [])) ≡ left h.history = stays act removes in
      record {
        legal = (event_empty k.seats k.capacity t.of t.nodes (left h.history) act facts removes, tt);
        apart = own_apart n;
        free = none_mine.1;
        waiting = λ x has. ⊎_elim (λ z. absurd (not_in x z)) (λ z. absurd (not_in x z)) has;
        tied = draws_tie k s h id v at (removal []) own (left_from (left h.history) (marks_of n act (removal []))) new positive owed (record {
          same = ap (λ (z : HuntPart). nodes_of z.guards) own_is;
          size = t.size;
          of = t.of;
          nodes = t.nodes;
          guarded = unchanged_guards k s h id v at (removal []) own (ap (λ (z : HuntPart). z.guards) own_is);
          facts = subst (λ (m : List Entry). HeapFacts k.seats k.capacity t.size t.of t.nodes m) (sym left_is) t.facts;
          sized = inl (refl, ap (λ (z : HuntPart). z.size_counted) own_is);
          stored = ap (λ (z : HuntPart). z.size_stored) own_is;
          lettered = ap (λ (z : HuntPart). z.lettered) own_is;
          done = ap (λ (z : HuntPart). z.climbing) own_is ∙ idle;
          waits_not = none_mine.0;
          unlettered = none_mine.1;
          others = λ m ne. (omega arith, refl, refl);
          own_helps = refl;
          few = omega arith;
          root = inl refl;
        });
      }
    where
      stays : (act : Act) → IsRemoval act → left_from (left h.history) (mark v.post.number act replies.Empty ∷ []) ≡ left h.history
      stays (Insert x) removes = absurd removes
      stays Remove removes = refl
      stays (RemoveBelow limit) removes = refl

  -- a removal that takes the root's entry, where the last node is another
  module _ (g f : Guard) (guards : v.post.own.guards ≡ g ∷ f ∷ []) (root : g.node ≡ 1) where
    abbrev has_root : Contains v.post.own.guards g
    has_root = subst (λ (z : List Guard). Contains z g) (sym guards) (in_first g (f ∷ []))

    abbrev has_last : Contains v.post.own.guards f
    has_last = subst (λ (z : List Guard). Contains z f) (sym guards) (in_later g f (f ∷ []) (in_first f []))

    pub places_got : (act : Act) (e l : Entry) (new : ℕ) → 0 < v.post.number → v.post.owed ≡ [] → v.post.own.climbing ≡ 0 → Contains v.post.locks heap_lock
        → 2 ≤ v.post.own.size_counted → f.node ≡ v.post.own.size_counted → HasWord g.counted e → HasWord f.counted l → MayGet act e
        → Places hunt_rule k id v act (removal (g ∷ f ∷ [])) (after_removal v.post.own) new s h
    places_got act e l new positive owed idle locked some_left last word last_word may =
        let n : ℕ = v.post.number in
        let size_is = (t.held id v.post here locked).0 in
        let none_mine = own_idle k s h id v at positive idle in let none_waits = none_mine.0 in
        let at_root : node t.nodes 1 ≡ g.counted = ap (node t.nodes) (sym root) ∙ counts k s h id v at g has_root in
        let is_last : t.size ≡ f.node = omega arith in
        let at_last : node t.nodes t.size ≡ f.counted = ap (node t.nodes) is_last ∙ counts k s h id v at f has_last in
        let in_root = (t.tree.guarded.held id v.post g here has_root).within in let in_last = (t.tree.guarded.held id v.post f here has_last).within in
        let less : ℕ → ℕ = λ q. busy_of q (node t.nodes 1) + busy_of q (node t.nodes t.size) in
        let of' : ℕ → Flight = fewer less in
        let enough : (q : ℕ) → less q ≤ (t.of q).waiting = (λ q. two_wait k s h id v at q 1 t.size (omega arith) (omega arith) (omega arith)) in
        let steps = event_draw k.seats k.capacity t.size n act t.of of' t.nodes (left h.history) e l t.facts (omega arith)
        (subst (λ (z : Node). HasWord z e) (sym at_root) word) (subst (λ (z : Node). HasWord z l) (sym at_last) last_word) may (fewer_waits k s h id v at less enough) in
        let marks : marks_of n act (removal (g ∷ f ∷ [])) ≡ drawn_marks n act e (node t.nodes 1) (node t.nodes t.size) =
        marks_are n act g.counted f.counted e (has_entry g.counted e word) ∙ (λ j. drawn_marks n act e (sym at_root j) (sym at_last j)) in
        let steps' : StepsTo k.seats k.capacity (t.size - 1) of' (set (set t.nodes 1 (Hole l)) t.size Empty) (left h.history) (marks_of n act (removal (g ∷ f ∷ []))) =
        subst (λ (z : List Mark). StepsTo k.seats k.capacity (t.size - 1) of' (set (set t.nodes 1 (Hole l)) t.size Empty) (left h.history) z) (sym marks) steps in
        let own : HuntPart = after_removal v.post.own in
        let g' : Guard = guard g.node g.stored (Hole l) in let f' : Guard = guard f.node f.stored Empty in
        let is : own.guards ≡ g' ∷ f' ∷ [] = ap emptied guards ∙ ap (λ (z : Entry). guard g.node g.stored (Hole z) ∷ f' ∷ []) (has_entry f.counted l last_word) in
        let apart : HaveNodesApart (g ∷ f ∷ []) = subst HaveNodesApart guards (t.tree.names id v.post here).apart in
        let helps_are : (m : ℕ) → helps m (flight_at g.counted) + helps m (flight_at f.counted) ≡ less m =
        (λ m. λ j. (helps_flight m g.counted ∙ ap (busy_of m) (sym at_root)) j + (helps_flight m f.counted ∙ ap (busy_of m) (sym at_last)) j) in
        let few_root = few_flights g.counted in let few_last = few_flights f.counted in
        record {
          legal = steps'.legal;
          apart = λ m. let a = helps_are m in let b = enough m in let c = t.facts.flown.most m in dite (ℕ_discrete n m)
              (λ e'. let d = test_same n m 1 0 e' in let w : (t.of m).waiting ≡ (t.of n).waiting = ap (λ (z : ℕ). (t.of z).waiting) (sym e') in omega arith)
              (λ ne. let d = test_other n m 1 0 ne in omega arith);
          free = none_mine.1;
          waiting = λ x has. ⊎_elim
              (λ b. waits_for k s h id v at owed 1 x.0 x.1 (at_root ∙ in_flight g.counted x b))
              (λ b. waits_for k s h id v at owed t.size x.0 x.1 (at_last ∙ in_flight f.counted x b)) has;
          tied = draws_tie k s h id v at (removal (g ∷ f ∷ [])) own (left_from (left h.history) (marks_of n act (removal (g ∷ f ∷ [])))) new positive owed (record {
            same = ap nodes_of is ∙ sym (ap nodes_of guards);
            size = t.size - 1;
            of = of';
            nodes = set (set t.nodes 1 (Hole l)) t.size Empty;
            guarded = subst (λ (z : ℕ). IsGuarded (kind_of hunt_nodes) (locks_in s.words) (words_in s.words) (set qs id (drawn_post (removal (g ∷ f ∷ [])) own)) (set (set t.nodes 1 (Hole l)) z Empty)) (sym is_last)
                (subst (λ (z : ℕ). IsGuarded (kind_of hunt_nodes) (locks_in s.words) (words_in s.words) (set qs id (drawn_post (removal (g ∷ f ∷ [])) own)) (set (set t.nodes z (Hole l)) f.node Empty)) root
                (guards_written (kind_of hunt_nodes) (locks_in s.words) (words_in s.words) (words_in s.words) qs t.nodes id v.post (record v.post { own = record v.post.own { guards = g' ∷ f ∷ [] } }) (drawn_post (removal (g ∷ f ∷ [])) own) g g' f f'
                t.tree.guarded here has_root refl (nothing_set k s h id v at g has_root)
                (λ z at_z. ⊎_elim (λ q. inl q) (λ r. inr (r.0, subst (λ (y : List Guard). Contains y z) (sym guards) r.1)) (first_cases g g' (f ∷ []) refl apart z at_z))
                (in_later g' f (f ∷ []) (in_first f [])) refl (sym (t.tree.guarded.held id v.post f here has_last).stored)
                (λ z at_z. second_cases g' f f' [] refl (apart_same (g ∷ f ∷ []) (g' ∷ f ∷ []) refl apart) z (subst (λ (y : List Guard). Contains y z) is at_z))));
            facts = steps'.facts;
            sized = inr (locked, ap (λ (z : ℕ). z - 1) size_is);
            stored = refl;
            lettered = refl;
            done = idle;
            waits_not = omega arith;
            unlettered = none_mine.1;
            others = λ m ne. (let a = helps_are m in let b = enough m in omega arith, refl, refl);
            own_helps = let a = helps_are n in let b = enough n in omega arith;
            few = omega arith;
            root = inr (g, has_root, root);
          });
        }

  -- a removal of the only entry's node
  module _ (g : Guard) (guards : v.post.own.guards ≡ g ∷ []) (root : g.node ≡ 1) where
    abbrev has_only : Contains v.post.own.guards g
    has_only = subst (λ (z : List Guard). Contains z g) (sym guards) (in_first g [])

    -- the root's insert alone is placed for another
    only_helps : (q : ℕ) → helps q (flight_at g.counted) + helps q [] ≡ busy_of q (node t.nodes 1)
    only_helps q = let a = helps_flight q g.counted ∙ ap (busy_of q) (sym (ap (node t.nodes) (sym root) ∙ counts k s h id v at g has_only)) in omega arith

    only_apart : (m : ℕ) → 0 < v.post.number → v.post.own.climbing ≡ 0 → helps m (flight_at g.counted) + helps m [] + cond (eqb v.post.number m) 1 0 ≤ 1
    only_apart m positive idle = let n : ℕ = v.post.number in let none_waits = (own_idle k s h id v at positive idle).0 in
        let within = (t.tree.guarded.held id v.post g here has_only).within in
        let a = only_helps m in let b = one_waits k s h id v at m 1 (omega arith) in let c = t.facts.flown.most m in dite (ℕ_discrete n m)
        (λ e'. let d = test_same n m 1 0 e' in let w : (t.of m).waiting ≡ (t.of n).waiting = ap (λ (z : ℕ). (t.of z).waiting) (sym e') in omega arith)
        (λ ne. let d = test_other n m 1 0 ne in omega arith)

    only_written : (b : Batch) (own : HuntPart) (counted : Node) → own.guards ≡ guard g.node g.stored counted ∷ []
        → IsGuarded (kind_of hunt_nodes) (locks_in s.words) (words_in s.words) (set qs id (drawn_post b own)) (set t.nodes 1 counted)
    only_written b own counted is =
        let g' : Guard = guard g.node g.stored counted in
        let apart : HaveNodesApart (g ∷ []) = subst HaveNodesApart guards (t.tree.names id v.post here).apart in
        subst (λ (z : ℕ). IsGuarded (kind_of hunt_nodes) (locks_in s.words) (words_in s.words) (set qs id (drawn_post b own)) (set t.nodes z counted)) root
        (guard_written (kind_of hunt_nodes) (locks_in s.words) (words_in s.words) (words_in s.words) qs t.nodes id v.post (drawn_post b own) g g' t.tree.guarded here has_only refl (nothing_set k s h id v at g has_only)
        (λ z at_z. ⊎_elim (λ q. inl q) (λ r. inr (r.0, subst (λ (y : List Guard). Contains y z) (sym guards) r.1)) (first_cases g g' [] refl apart z (subst (λ (y : List Guard). Contains y z) is at_z))))

    pub places_last : (act : Act) (e : Entry) (new : ℕ) → 0 < v.post.number → v.post.owed ≡ [] → v.post.own.climbing ≡ 0 → Contains v.post.locks heap_lock
        → v.post.own.size_counted ≡ 1 → HasWord g.counted e → MayGet act e
        → Places hunt_rule k id v act (removal (g ∷ [])) (after_removal v.post.own) new s h
    places_last act e new positive owed idle locked one word may =
        let n : ℕ = v.post.number in
        let size_is = (t.held id v.post here locked).0 in
        let none_mine = own_idle k s h id v at positive idle in let none_waits = none_mine.0 in
        let at_root : node t.nodes 1 ≡ g.counted = ap (node t.nodes) (sym root) ∙ counts k s h id v at g has_only in
        let within = (t.tree.guarded.held id v.post g here has_only).within in
        let less : ℕ → ℕ = λ q. busy_of q (node t.nodes 1) in
        let of' : ℕ → Flight = fewer less in
        let enough : (q : ℕ) → less q ≤ (t.of q).waiting = (λ q. one_waits k s h id v at q 1 (omega arith)) in
        let facts : HeapFacts k.seats k.capacity 1 t.of t.nodes (left h.history) = subst (λ (z : ℕ). HeapFacts k.seats k.capacity z t.of t.nodes (left h.history)) (sym size_is ∙ one) t.facts in
        let steps = event_draw_last k.seats k.capacity n act t.of of' t.nodes (left h.history) e facts (subst (λ (z : Node). HasWord z e) (sym at_root) word) may (fewer_waits k s h id v at less enough) in
        let marks : marks_of n act (removal (g ∷ [])) ≡ last_marks n act e (node t.nodes 1) =
        (λ j. marks_flight g.counted j ++ mark n act (replies.Got (has_entry g.counted e word j)) ∷ []) ∙ (λ j. last_marks n act e (sym at_root j)) in
        let steps' : StepsTo k.seats k.capacity 0 of' (set t.nodes 1 Empty) (left h.history) (marks_of n act (removal (g ∷ []))) =
        subst (λ (z : List Mark). StepsTo k.seats k.capacity 0 of' (set t.nodes 1 Empty) (left h.history) z) (sym marks) steps in
        let own : HuntPart = after_removal v.post.own in
        let is : own.guards ≡ guard g.node g.stored Empty ∷ [] = ap emptied guards in
        let few_root = few_flights g.counted in
        record {
          legal = steps'.legal;
          apart = λ m. only_apart m positive idle;
          free = none_mine.1;
          waiting = λ x has. ⊎_elim (λ b. waits_for k s h id v at owed 1 x.0 x.1 (at_root ∙ in_flight g.counted x b)) (λ b. absurd (not_in x b)) has;
          tied = draws_tie k s h id v at (removal (g ∷ [])) own (left_from (left h.history) (marks_of n act (removal (g ∷ [])))) new positive owed (record {
            same = ap nodes_of is ∙ sym (ap nodes_of guards);
            size = 0;
            of = of';
            nodes = set t.nodes 1 Empty;
            guarded = only_written (removal (g ∷ [])) own Empty is;
            facts = steps'.facts;
            sized = inr (locked, ap (λ (z : ℕ). z - 1) one);
            stored = refl;
            lettered = refl;
            done = idle;
            waits_not = omega arith;
            unlettered = none_mine.1;
            others = λ m ne. (let a = only_helps m in let b = enough m in omega arith, refl, refl);
            own_helps = let a = only_helps n in let b = enough n in omega arith;
            few = omega arith;
            root = inr (g, has_only, root);
          });
        }

    -- no key is below the limit
    pub places_above : (limit : ℕ) (e : Entry) (new : ℕ) → 0 < v.post.number → v.post.owed ≡ [] → v.post.own.climbing ≡ 0 → Contains v.post.locks heap_lock
        → 1 ≤ v.post.own.size_counted → HasWord g.counted e → limit ≤ e.key
        → Places hunt_rule k id v (RemoveBelow limit) (record { before = flight_at g.counted; reply = replies.Above; after = [] }) (with_guards v.post.own (settled v.post.own.guards)) new s h
    places_above limit e new positive owed idle locked some_left word high =
        let n : ℕ = v.post.number in let b : Batch = record { before = flight_at g.counted; reply = replies.Above; after = [] } in
        let size_is = (t.held id v.post here locked).0 in
        let none_mine = own_idle k s h id v at positive idle in let none_waits = none_mine.0 in
        let at_root : node t.nodes 1 ≡ g.counted = ap (node t.nodes) (sym root) ∙ counts k s h id v at g has_only in
        let within = (t.tree.guarded.held id v.post g here has_only).within in
        let less : ℕ → ℕ = λ q. busy_of q (node t.nodes 1) in
        let of' : ℕ → Flight = fewer less in
        let enough : (q : ℕ) → less q ≤ (t.of q).waiting = (λ q. one_waits k s h id v at q 1 (omega arith)) in
        let steps = event_above k.seats k.capacity t.size n limit t.of of' t.nodes (left h.history) e t.facts (omega arith) (subst (λ (z : Node). HasWord z e) (sym at_root) word) high (fewer_waits k s h id v at less enough) in
        let marks : marks_of n (RemoveBelow limit) b ≡ above_marks n limit (node t.nodes 1) =
        (λ j. marks_flight g.counted j ++ mark n (RemoveBelow limit) replies.Above ∷ []) ∙ (λ j. above_marks n limit (sym at_root j)) in
        let steps' : StepsTo k.seats k.capacity t.size of' (set t.nodes 1 (Available e)) (left h.history) (marks_of n (RemoveBelow limit) b) =
        subst (λ (z : List Mark). StepsTo k.seats k.capacity t.size of' (set t.nodes 1 (Available e)) (left h.history) z) (sym marks) steps in
        let own : HuntPart = with_guards v.post.own (settled v.post.own.guards) in
        let is : own.guards ≡ guard g.node g.stored (Available e) ∷ [] = ap settled guards ∙ ap (λ (z : Entry). guard g.node g.stored (Available z) ∷ []) (has_entry g.counted e word) in
        let few_root = few_flights g.counted in
        record {
          legal = steps'.legal;
          apart = λ m. only_apart m positive idle;
          free = none_mine.1;
          waiting = λ x has. ⊎_elim (λ c. waits_for k s h id v at owed 1 x.0 x.1 (at_root ∙ in_flight g.counted x c)) (λ c. absurd (not_in x c)) has;
          tied = draws_tie k s h id v at b own (left_from (left h.history) (marks_of n (RemoveBelow limit) b)) new positive owed (record {
            same = ap nodes_of is ∙ sym (ap nodes_of guards);
            size = t.size;
            of = of';
            nodes = set t.nodes 1 (Available e);
            guarded = only_written b own (Available e) is;
            facts = steps'.facts;
            sized = inl (refl, refl);
            stored = refl;
            lettered = refl;
            done = idle;
            waits_not = omega arith;
            unlettered = none_mine.1;
            others = λ m ne. (let a = only_helps m in let c = enough m in omega arith, refl, refl);
            own_helps = let a = only_helps n in let c = enough n in omega arith;
            few = omega arith;
            root = inr (g, has_only, root);
          });
        }
