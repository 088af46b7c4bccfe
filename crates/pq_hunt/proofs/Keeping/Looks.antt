-- The size's store, and what an owner makes of a word that is not its own, keep the heap's facts.
use Rattle.std.proofs.Common.{◌≡◌, ◌≢◌, ℕ, suc, ◌+◌, ◌/◌, ◌<◌, ◌≤◌, true, List, [], ◌∷◌, get_or, set, min, inl, inr, ⊎_elim, refl, sym, ap, ◌∙◌, subst, arith, get_or-set_other, get_or-set_same, length-set}
use Rattle.std.specs.Prelude.{Contains, slice_index}
use Rattle.std.specs.List.{sum_by}
use Rattle.std.proofs.lemmas.List.Sums.{sum_by-cons}
use mathlib.Core.Option.{some}
use lib.ListN.{get_elem?}
use native.Mathlib.Decide.{ℕ_discrete}
use mathlib.Core.Logic.{dite}
use Rattle.pq_words.specs.declared.entries.Entry.{Entry}
use Rattle.pq_model.specs.History.{left}
use Rattle.pq_seats.specs.declared.views.Limits.{Limits}
use Rattle.pq_seats.specs.declared.views.Post.{Post}
use Rattle.pq_seats.specs.declared.views.View.{View}
use Rattle.pq_seats.specs.Letters.{owed_count, letter_count}
use Rattle.pq_seats.specs.Rules.{Table, Holds}
use Rattle.pq_seats.proofs.Lists.{same_at, sum_kept}
use Rattle.pq_hunt.specs.declared.nodes.Node.TheVariants.{Busy}
use Rattle.pq_hunt.specs.Nodes.{node}
use Rattle.pq_hunt.specs.Flights.{Flight, looking_at}
use Rattle.pq_hunt.specs.Facts.{HeapFacts}
use Rattle.pq_hunt.proofs.Heap.Events.{event_look, event_lost}
use Rattle.pq_hunt.specs.Guards.{Guard}
use Rattle.pq_hunt.specs.declared.views.HuntPart.{HuntPart}
use Rattle.pq_nodes.specs.Layout.{lock_of}
use Rattle.pq_hunt.specs.Layout.{heap_lock, size_word}
use Rattle.pq_hunt.specs.Ties.{HuntTied}
use Rattle.pq_hunt.specs.Rules.{hunt_rule}
use Rattle.pq_nodes.proofs.Keeping.{guard_counts, frame_keeps}
use Rattle.pq_nodes.proofs.Tables.{same_locks, same_words}
use Rattle.pq_hunt.specs.LawsHold.Changes.{ps, pat, changed, Inserts, IsSteady, steady_inserts, steady_letters}
use Rattle.pq_hunt.proofs.Keeping.Stores.{with_flight, with_flight_is}
use Rattle.pq_hunt.specs.NodeParts.{hunt_nodes}

-- nobody owes anything
none_owed : (n : ℕ) (posts : List (Post HuntPart)) → ((j : ℕ) (p : Post HuntPart) → get_elem? posts j ≡ some p → p.owed ≡ [])
    → sum_by (λ (p : Post HuntPart). owed_count n p.owed) posts ≡ 0
none_owed n [] none_here = refl
none_owed n (p ∷ ps) none_here = let c = sum_by-cons (λ (q : Post HuntPart). owed_count n q.owed) p ps in let a = ap (owed_count n) (none_here 0 p refl) in
    let r = none_owed n ps (λ j q at. none_here (suc j) q at) in omega arith

module _ (k : Limits) (s : Table HuntPart) (h : Holds hunt_rule k s) (id : ℕ) (v : View HuntPart) (at : get_elem? s.views id ≡ some v) where
  abbrev qs : List (Post HuntPart)
  qs = ps k s h id v at

  abbrev t : HuntTied k s.words qs (left h.history)
  t = h.tied

  abbrev here : get_elem? qs id ≡ some v.post
  here = pat k s h id v at

  -- the post of a seat that stored the size
  abbrev pub sizing : ℕ → Post HuntPart
  sizing x = record v.post { own = record v.post.own { size_stored = x } }

  -- the size is stored, under its lock
  pub stores_size : (x : ℕ) → Contains v.post.locks heap_lock → HuntTied k (set s.words size_word x) (set qs id (sizing x)) (left h.history)
  stores_size x locked =
      let p' : Post HuntPart = sizing x in let ws : List ℕ = set s.words size_word x in
      let steady : IsSteady k s h id v at p' = record { number = refl; flight = refl; owed = refl; place = refl; climbing = refl; lettered = refl } in
      let lock : get_or ws heap_lock 0 ≡ get_or s.words heap_lock 0 = get_or-set_other s.words size_word heap_lock x 0 (omega arith) in
      let long = t.long in
      let mine = (h.each id v at).held heap_lock locked in let is_mine = mine.1 in let some_number = mine.2 in
      changed k s h id v at p' ws (left h.history) (record {
        number = refl;
        long = length-set s.words size_word x;
        size = t.size;
        of = t.of;
        nodes = t.nodes;
        tree = frame_keeps hunt_nodes s.words qs t.nodes t.tree id v.post here ws p' (same_locks s.words size_word x (omega arith))
            (same_words s.words size_word x (omega arith)) refl (λ i has. has) (λ i has. has);
        facts = t.facts;
        sizes = record {
          free = λ e. absurd (some_number (sym is_mine ∙ (sym lock ∙ e)));
          mine = λ has. ((t.held id v.post here has).0, get_or-set_same s.words size_word x 0 (omega arith));
          theirs = inr locked;
        };
        inserts = steady_inserts k s h id v at p' size_word x (omega arith) steady;
        letters = steady_letters k s h id v at p' size_word x (omega arith) steady (λ g has is. inr (g, has, is));
      })

  -- a view that names something else of the seat's insert alone
  view_change : (p' : Post HuntPart) (of' : ℕ → Flight) → p'.number ≡ v.post.number → p'.locks ≡ v.post.locks → p'.owed ≡ v.post.owed → p'.own.guards ≡ v.post.own.guards
      → p'.own.size_stored ≡ v.post.own.size_stored → p'.own.size_counted ≡ v.post.own.size_counted
      → HeapFacts k.seats k.capacity t.size of' t.nodes (left h.history) → Inserts k s h id v at p' s.words of' → (p'.own.lettered ≡ true → slice_index s.words p'.number ≢ 0)
      → HuntTied k s.words (set qs id p') (left h.history)
  view_change p' of' number locks owed guards stored counted facts inserts lettered =
      changed k s h id v at p' s.words (left h.history) (record {
        number = number;
        long = refl;
        size = t.size;
        of = of';
        nodes = t.nodes;
        tree = frame_keeps hunt_nodes s.words qs t.nodes t.tree id v.post here s.words p' (λ i. refl) (λ i. refl) guards
            (λ i has. subst (λ (z : List ℕ). Contains z (lock_of i)) (sym locks) has)
            (λ i has. subst (λ (z : List ℕ). Contains z (lock_of i)) locks has);
        facts = facts;
        sizes = record {
          free = t.free;
          mine = λ has. let old = t.held id v.post here (subst (λ (z : List ℕ). Contains z heap_lock) locks has) in (counted ∙ old.0, old.1 ∙ sym stored);
          theirs = inl (refl, refl);
        };
        inserts = inserts;
        letters = record {
          owing = ⊎_elim (λ e. inl (owed ∙ e)) (λ g. inr (g.0, subst (λ (l : List Guard). Contains l g.0) (sym guards) g.1, g.2)) (t.owing id v.post here);
          sent = t.sent;
          owes = λ z has. t.owes id v.post z here (subst (λ (w : List (ℕ × ℕ)). Contains w z) owed has);
          lettered = lettered;
          written = λ n pos low ne old. old;
        };
      })

  -- letters, where the seat owes what it owed
  letters_same : (p' : Post HuntPart) → p'.owed ≡ v.post.owed → (n : ℕ) → letter_count n s.words (set qs id p') ≡ letter_count n s.words qs
  letters_same p' owed n = ap (λ (z : ℕ). min (get_or s.words n 0) 1 + z) (sum_kept (λ (p : Post HuntPart). owed_count n p.owed) qs id v.post p' here (ap (owed_count n) owed))

  -- the post of a seat that looks for its entry at the parent next
  abbrev pub looking : Post HuntPart
  looking = record v.post { own = record v.post.own { place = v.post.own.place / 2 } }

  -- an owner that does not find its entry where it looks goes on at the parent
  pub looks_up : (g : Guard) → Contains v.post.own.guards g → v.post.own.place ≡ g.node → v.post.own.climbing ≡ 1 → 0 < v.post.number
      → ((e : Entry) → g.counted ≢ Busy v.post.number e) → HuntTied k s.words (set qs id looking) (left h.history)
  looks_up g has place climbing positive gone =
      let p' : Post HuntPart = looking in let n : ℕ = v.post.number in
      let old = t.told id v.post here positive in
      let at_place : (t.of n).place ≡ g.node = old.place climbing ∙ place in
      let counted : node t.nodes g.node ≡ g.counted = guard_counts hunt_nodes s.words qs t.nodes t.tree id v.post here g has in
      let new : Flight = looking_at (t.of n) ((t.of n).place / 2) in
      let of' : ℕ → Flight = with_flight t.of n new in let other = with_flight_is t.of n new in
      let facts = event_look k.seats k.capacity t.size t.of of' t.nodes (left h.history) n t.facts
      (λ e is. gone e (sym counted ∙ (ap (node t.nodes) (sym at_place) ∙ is))) other in
      view_change p' of' refl refl refl refl refl refl facts
      (record {
        told = λ pos. record {
          told = record { most = old.told.most; told = let a : (of' n).waiting ≡ (t.of n).waiting = ap (λ (z : Flight). z.waiting) other.own in let b = letters_same p' refl n in let c = old.told.told in omega arith };
          place = λ e. ap (λ (z : Flight). z.place) other.own ∙ ap (λ (z : ℕ). z / 2) (old.place e);
          flies = λ e. let r = old.flies e in (r.0, r.1, ap (λ (z : Flight). z.entry) other.own ∙ r.2);
          rests = old.rests;
        };
        others = λ m pos low ne. let q = other.others m ne in record {
          waits = let a : (of' m).waiting ≡ (t.of m).waiting = ap (λ (z : Flight). z.waiting) q in let b = letters_same p' refl m in omega arith;
          place = ap (λ (z : Flight). z.place) q;
          entry = ap (λ (z : Flight). z.entry) q;
        };
        borne = λ m w. dite (ℕ_discrete m n) (λ e. inr (e, omega arith)) (λ ne. inl (subst (λ (z : Flight). 1 ≤ z.waiting) (other.others m ne) w));
      })
      (t.lettered id v.post here)

  -- the post of a seat that has found its entry gone
  abbrev pub told_of : Post HuntPart
  told_of = record v.post { own = record v.post.own { lettered = true } }

  -- an owner that does not find its entry at the root has its letter
  pub finds_gone : (g : Guard) → Contains v.post.own.guards g → g.node ≡ 1 → v.post.own.place ≡ 1 → v.post.own.climbing ≡ 1 → 0 < v.post.number → v.post.owed ≡ []
      → ((e : Entry) → g.counted ≢ Busy v.post.number e) → HuntTied k s.words (set qs id told_of) (left h.history)
  finds_gone g has root place climbing positive owed gone =
      let p' : Post HuntPart = told_of in let n : ℕ = v.post.number in
      let old = t.told id v.post here positive in
      let counted : node t.nodes g.node ≡ g.counted = guard_counts hunt_nodes s.words qs t.nodes t.tree id v.post here g has in
      let none_waits = event_lost k.seats k.capacity t.size t.of t.nodes (left h.history) n t.facts (old.place climbing ∙ place)
      (λ e is. gone e (sym counted ∙ (ap (node t.nodes) root ∙ is))) in
      let none_owe = none_owed n qs (λ j p to. ⊎_elim (λ e. e) (λ r. let same : j ≡ id = t.tree.guarded.view j id p v.post r.0 g to here r.1 has (r.2 ∙ sym root) in
      let is : p ≡ v.post = same_at qs id p v.post (subst (λ (z : ℕ). get_elem? qs z ≡ some p) same to) here in ap (λ (z : Post HuntPart). z.owed) is ∙ owed) (t.owing j p to)) in
      let told_all = old.told.told in
      view_change p' t.of refl refl refl refl refl refl t.facts
      (record {
        told = λ pos. record {
          told = record { most = old.told.most; told = let b = letters_same p' refl n in omega arith };
          place = old.place;
          flies = old.flies;
          rests = old.rests;
        };
        others = λ m pos low ne. record { waits = ap (λ (z : ℕ). (t.of m).waiting + z) (letters_same p' refl m); place = refl; entry = refl };
        borne = λ m w. inl w;
      })
      (λ is zero_word. let none_there : min (get_or s.words n 0) 1 ≡ 0 = ap (λ (z : ℕ). min z 1) zero_word in omega arith)
