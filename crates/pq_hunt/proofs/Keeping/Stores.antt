-- The stores under the heap's locks keep its facts.
use Rattle.std.proofs.Common.{◌≡◌, Some, ℕ, ◌+◌, ◌*◌, ◌/◌, ◌<◌, ◌≤◌, Bool, true, false, cond, eqb, List, ◌∷◌, length, get_or, set, inl, inr, ⊎_elim, refl, sym, ap, ◌∙◌, subst, arith, get_or-set_other, length-set, eq-eqb, ne_eqb}
use Rattle.std.specs.Prelude.{Contains}
use mathlib.Core.Option.{some}
use lib.ListN.{get_elem?}
use native.Mathlib.Decide.{ℕ_discrete}
use mathlib.Core.Logic.{dite}
use Rattle.pq_words.specs.declared.entries.Entry.{Entry}
use Rattle.pq_words.specs.Entries.{raw_of}
use Rattle.pq_model.specs.History.{left}
use Rattle.pq_seats.specs.declared.views.Limits.{Limits}
use Rattle.pq_seats.specs.declared.views.Post.{Post}
use Rattle.pq_seats.specs.declared.views.View.{View}
use Rattle.pq_seats.specs.Letters.{letter_count}
use Rattle.pq_seats.specs.Rules.{Table, Holds}
use Rattle.pq_seats.proofs.Lists.{in_first, in_later}
use Rattle.pq_hunt.specs.declared.nodes.Node.{Node}
use Rattle.pq_hunt.specs.declared.nodes.Node.TheVariants.{Available, Busy, Hole}
use Rattle.pq_hunt.specs.Nodes.{node}
use Rattle.pq_hunt.specs.Order.{HasWord, MayStandOver}
use Rattle.pq_hunt.specs.Flights.{Flight, flight, looking_at, IsOther}
use Rattle.pq_hunt.specs.Facts.{HeapFacts}
use Rattle.pq_hunt.proofs.Heap.Events.{event_leaf, event_climb, event_sift, event_fill}
use Rattle.pq_hunt.specs.Guards.{Guard}
use Rattle.pq_hunt.specs.declared.views.HuntPart.{HuntPart}
use Rattle.pq_nodes.specs.Layout.{word_of}
use Rattle.pq_hunt.specs.Layout.{size_word, heap_lock}
use Rattle.pq_nodes.specs.Views.{guard, exchanged, exchanged_third, refilled}
use Rattle.pq_hunt.specs.Views.{with_guards}
use Rattle.pq_nodes.specs.Views.{HaveNodesApart}
use Rattle.pq_hunt.specs.Ties.{HuntTied}
use Rattle.pq_hunt.specs.Rules.{hunt_rule}
use Rattle.pq_hunt.specs.LawsHold.Frames.{number_low}
use Rattle.pq_hunt.specs.LawsHold.Changes.{ps, pat, changed, Sizes, Inserts, IsSteady, steady_inserts, letters_kept}
use Rattle.pq_nodes.specs.Views.{nodes_of}
use Rattle.pq_nodes.proofs.GuardLists.{in_same}
use Rattle.pq_nodes.specs.Facts.{NodeFacts}
use Rattle.pq_hunt.specs.NodeParts.{hunt_nodes}
use Rattle.pq_nodes.proofs.Keeping.{guard_counts, refill_keeps, exchange_second, exchange_third}

-- one flight is another
pub with_flight : (ℕ → Flight) → ℕ → Flight → ℕ → Flight
with_flight of o f p = cond {A = Flight} (eqb p o) f (of p)

pub with_flight_is : (of : ℕ → Flight) (o : ℕ) (f : Flight) → IsOther of (with_flight of o f) o f
unfolding with_flight
with_flight_is of o f = record {
  own = ap (λ (b : Bool). cond {A = Flight} b f (of o)) (eq-eqb o o refl);
  others = λ p ne. ap (λ (b : Bool). cond {A = Flight} b f (of p)) (ne_eqb p o ne);
}

module _ (k : Limits) (s : Table HuntPart) (h : Holds hunt_rule k s) (id : ℕ) (v : View HuntPart) (at : get_elem? s.views id ≡ some v) where
  abbrev qs : List (Post HuntPart)
  qs = ps k s h id v at

  abbrev t : HuntTied k s.words qs (left h.history)
  t = h.tied

  abbrev here : get_elem? qs id ≡ some v.post
  here = pat k s h id v at

  -- the post of a seat whose guards are these
  abbrev pub guarding : List Guard → Post HuntPart
  guarding gs = record v.post { own = with_guards v.post.own gs }

  -- the word of a node is stored; the seat's locks stay, and it guards the same nodes
  node_change : (p' : Post HuntPart) (i x : ℕ) (of' : ℕ → Flight) (nodes' : List Node) (m' : List Entry)
      → p'.number ≡ v.post.number → nodes_of p'.own.guards ≡ nodes_of v.post.own.guards
      → NodeFacts hunt_nodes (set s.words (word_of i) x) (set qs id p') nodes'
      → (size' : ℕ) → HeapFacts k.seats k.capacity size' of' nodes' m' → Sizes k s h id v at p' (set s.words (word_of i) x) size'
      → Inserts k s h id v at p' (set s.words (word_of i) x) of'
      → (owed : p'.owed ≡ v.post.owed) → (p'.own.lettered ≡ v.post.own.lettered)
      → HuntTied k (set s.words (word_of i) x) (set qs id p') m'
  node_change p' i x of' nodes' m' number same tree size' facts sizes inserts owed lettered =
      let word : (n : ℕ) → n ≤ 16 → get_or (set s.words (word_of i) x) n 0 ≡ get_or s.words n 0 = (λ n low. get_or-set_other s.words (word_of i) n x 0 (λ e. omega arith)) in
      changed k s h id v at p' (set s.words (word_of i) x) m' (record {
        number = number;
        long = length-set s.words (word_of i) x;
        size = size';
        of = of';
        nodes = nodes';
        tree = tree;
        facts = facts;
        sizes = sizes;
        inserts = inserts;
        letters = record {
          owing = ⊎_elim (λ e. inl (owed ∙ e)) (λ g. let r = in_same p'.own.guards v.post.own.guards (sym same) g.0 g.1 in inr (r.0, r.1, r.2 ∙ g.2)) (t.owing id v.post here);
          sent = λ n pos low. let e = word n low in let old = t.sent n pos low in omega arith;
          owes = λ z has. t.owes id v.post z here (subst (λ (w : List (ℕ × ℕ)). Contains w z) owed has);
          lettered = λ is z. let old = t.lettered id v.post here (sym lettered ∙ is) in dite (ℕ_discrete v.post.number 0)
              (λ e. let idles = (h.each id v at).empty e in let bad : false ≡ true = ap (λ (w : Post HuntPart). w.own.lettered) (sym idles) ∙ (sym lettered ∙ is) in absurd (cc))
              (λ ne. let low = (number_low k s h id v at (omega arith)).1 in
              old (sym (word v.post.number low) ∙ (ap (λ (w : ℕ). get_or (set s.words (word_of i) x) w 0) (sym number) ∙ z)));
          written = λ n pos low ne old z. old (sym (word n low) ∙ z);
        };
      })

  -- where the size stays
  size_stays : (p' : Post HuntPart) (i x : ℕ) → p'.locks ≡ v.post.locks → p'.own.size_stored ≡ v.post.own.size_stored → p'.own.size_counted ≡ v.post.own.size_counted
      → Sizes k s h id v at p' (set s.words (word_of i) x) t.size
  size_stays p' i x locks stored counted =
      let lock : get_or (set s.words (word_of i) x) heap_lock 0 ≡ get_or s.words heap_lock 0 = get_or-set_other s.words (word_of i) heap_lock x 0 (omega arith) in
      let there : get_or (set s.words (word_of i) x) size_word 0 ≡ get_or s.words size_word 0 = get_or-set_other s.words (word_of i) size_word x 0 (omega arith) in record {
        free = λ e. there ∙ t.free (sym lock ∙ e);
        mine = λ has. let old = t.held id v.post here (subst (λ (z : List ℕ). Contains z heap_lock) locks has) in (counted ∙ old.0, there ∙ (old.1 ∙ sym stored));
        theirs = inl (refl, there);
      }

  steady_guards : (gs : List Guard) → IsSteady k s h id v at (guarding gs)
  steady_guards gs = record { number = refl; flight = refl; owed = refl; place = refl; climbing = refl; lettered = refl }

  -- a guarded node is one of the heap's, and its word one of the table's
  within : (g : Guard) → Contains v.post.own.guards g → (g.node < length t.nodes) × (word_of g.node < length s.words)
  within g has = let lt = (t.tree.guarded.held id v.post g here has).within in let long = t.long in let nodes_long = t.facts.long in (lt, omega arith)

  -- a hole is filled with the entry in hand
  pub fills : (g : Guard) (gs : List Guard) (x : ℕ) (entry : Entry) → v.post.own.guards ≡ g ∷ gs → g.counted ≡ Hole entry
      → MayStandOver entry (node t.nodes (2 * g.node)) → MayStandOver entry (node t.nodes (2 * g.node + 1))
      → HuntTied k (set s.words (word_of g.node) x) (set qs id (guarding (refilled x (Available entry) v.post.own.guards))) (left h.history)
  fills g gs x entry guards hole left_may right_may =
      let i : ℕ = g.node in let p' : Post HuntPart = guarding (refilled x (Available entry) v.post.own.guards) in
      let has : Contains v.post.own.guards g = subst (λ (z : List Guard). Contains z g) (sym guards) (in_first g gs) in
      let counted : node t.nodes i ≡ Hole entry = guard_counts hunt_nodes s.words qs t.nodes t.tree id v.post here g has ∙ hole in
      let is : p'.own.guards ≡ guard i x (Available entry) ∷ gs = ap (refilled x (Available entry)) guards in
      node_change p' i x t.of (set t.nodes i (Available entry)) (left h.history) refl (ap nodes_of is ∙ sym (ap nodes_of guards))
      (refill_keeps hunt_nodes s.words qs t.nodes t.tree id v.post here g gs x (Available entry) p' guards is refl (within g has).1)
      t.size (event_fill k.seats k.capacity t.size t.of t.nodes (left h.history) i entry t.facts counted left_may right_may)
      (size_stays p' i x refl refl refl) (steady_inserts k s h id v at p' (word_of i) x (omega arith) (steady_guards p'.own.guards)) refl refl

  module _ (g f : Guard) (gs : List Guard) (guards : v.post.own.guards ≡ g ∷ f ∷ gs) where
    abbrev pub has_first : Contains v.post.own.guards g
    has_first = subst (λ (z : List Guard). Contains z g) (sym guards) (in_first g (f ∷ gs))

    abbrev pub has_second : Contains v.post.own.guards f
    has_second = subst (λ (z : List Guard). Contains z f) (sym guards) (in_later g f (f ∷ gs) (in_first f gs))

    -- a sift: the second guard's node has the lesser word
    pub sifts : (d : ℕ) (x e : Entry) → g.counted ≡ Hole x → f.node / 2 ≡ g.node → f.node + d ≡ 4 * g.node + 1 → HasWord f.counted e → raw_of e ≤ raw_of x
        → MayStandOver e (node t.nodes d)
        → HuntTied k (set s.words (word_of g.node) f.stored) (set qs id (guarding (exchanged v.post.own.guards))) (left h.history)
    sifts d x e hole child pair word under may =
        let p' : Post HuntPart = guarding (exchanged v.post.own.guards) in
        let at_g : node t.nodes g.node ≡ Hole x = guard_counts hunt_nodes s.words qs t.nodes t.tree id v.post here g has_first ∙ hole in
        let at_f : node t.nodes f.node ≡ f.counted = guard_counts hunt_nodes s.words qs t.nodes t.tree id v.post here f has_second in
        let is : p'.own.guards ≡ guard g.node f.stored f.counted ∷ guard f.node f.stored g.counted ∷ gs = ap exchanged guards in
        let facts = event_sift k.seats k.capacity t.size t.of t.nodes (left h.history) g.node f.node d x e t.facts at_g child pair (subst (λ (z : Node). HasWord z e) (sym at_f) word) under may in
        let nodes' : List Node = set (set t.nodes g.node f.counted) f.node g.counted in
        node_change p' g.node f.stored t.of nodes' (left h.history) refl (ap nodes_of is ∙ sym (ap nodes_of guards))
        (exchange_second hunt_nodes s.words qs t.nodes t.tree id v.post here (λ o l. refl) g f gs p' guards refl refl (within g has_first).1) t.size
        (subst (λ (z : Node). HeapFacts k.seats k.capacity t.size t.of (set (set t.nodes g.node f.counted) f.node z) (left h.history)) (sym hole)
        (subst (λ (z : Node). HeapFacts k.seats k.capacity t.size t.of (set (set t.nodes g.node z) f.node (Hole x)) (left h.history)) at_f facts))
        (size_stays p' g.node f.stored refl refl refl) (steady_inserts k s h id v at p' (word_of g.node) f.stored (omega arith) (steady_guards p'.own.guards)) refl refl

    -- the post of a seat whose insert has climbed to the first guard's node
    abbrev pub climbed : Post HuntPart
    climbed = record v.post { own = record v.post.own { guards = exchanged v.post.own.guards; place = g.node } }

    -- a climb: the second guard's node holds the seat's entry, and the first an entry that is not below it
    pub climbs : (x y : Entry) → f.node / 2 ≡ g.node → g.counted ≡ Available y → f.counted ≡ Busy v.post.number x → raw_of x ≤ raw_of y → 0 < v.post.number → v.post.own.climbing ≡ 1 → v.post.own.place ≡ f.node
        → HuntTied k (set s.words (word_of g.node) f.stored) (set qs id climbed) (left h.history)
    climbs x y child above below under positive climbing place =
        let p' : Post HuntPart = climbed in let n : ℕ = v.post.number in
        let ws : List ℕ = set s.words (word_of g.node) f.stored in
        let at_g : node t.nodes g.node ≡ Available y = guard_counts hunt_nodes s.words qs t.nodes t.tree id v.post here g has_first ∙ above in
        let at_f : node t.nodes f.node ≡ Busy n x = guard_counts hunt_nodes s.words qs t.nodes t.tree id v.post here f has_second ∙ below in
        let is : p'.own.guards ≡ guard g.node f.stored f.counted ∷ guard f.node f.stored g.counted ∷ gs = ap exchanged guards in
        let new : Flight = looking_at (t.of n) g.node in
        let of' : ℕ → Flight = with_flight t.of n new in
        let other = with_flight_is t.of n new in
        let facts = event_climb k.seats k.capacity t.size t.of of' t.nodes (left h.history) g.node f.node n x y t.facts child at_g at_f under other in
        let same : (m : ℕ) → m ≤ 16 → letter_count m ws (set qs id p') ≡ letter_count m s.words qs = letters_kept k s h id v at p' (word_of g.node) f.stored (omega arith) refl in
        let old = t.told id v.post here positive in
        let low = (number_low k s h id v at positive).1 in
        node_change p' g.node f.stored of' (set (set t.nodes g.node f.counted) f.node g.counted) (left h.history) refl (ap nodes_of is ∙ sym (ap nodes_of guards))
        (exchange_second hunt_nodes s.words qs t.nodes t.tree id v.post here (λ o l. refl) g f gs p' guards refl refl (within g has_first).1) t.size
        (subst (λ (z : Node). HeapFacts k.seats k.capacity t.size of' (set (set t.nodes g.node f.counted) f.node z) (left h.history)) (sym above)
        (subst (λ (z : Node). HeapFacts k.seats k.capacity t.size of' (set (set t.nodes g.node z) f.node (Available y)) (left h.history)) (sym below) facts))
        (size_stays p' g.node f.stored refl refl refl)
        (record {
          told = λ pos. record {
            told = record { most = old.told.most; told = let a : (of' n).waiting ≡ (t.of n).waiting = ap (λ (z : Flight). z.waiting) other.own in let b = same n low in let c = old.told.told in omega arith };
            place = λ e. ap (λ (z : Flight). z.place) other.own;
            flies = λ e. let r = old.flies e in (r.0, r.1, ap (λ (z : Flight). z.entry) other.own ∙ r.2);
            rests = old.rests;
          };
          others = λ m pos m_low ne. let e = other.others m ne in record {
            waits = let a : (of' m).waiting ≡ (t.of m).waiting = ap (λ (z : Flight). z.waiting) e in let b = same m m_low in omega arith;
            place = ap (λ (z : Flight). z.place) e;
            entry = ap (λ (z : Flight). z.entry) e;
          };
          borne = λ m w. dite (ℕ_discrete m n) (λ e. inr (e, omega arith)) (λ ne. inl (subst (λ (z : Flight). 1 ≤ z.waiting) (other.others m ne) w));
        }) refl refl

  -- a sift where the third guard's node has the lesser word
  pub sifts_third : (g b f : Guard) (gs : List Guard) → v.post.own.guards ≡ g ∷ b ∷ f ∷ gs → (d : ℕ) (x e : Entry) → g.counted ≡ Hole x → f.node / 2 ≡ g.node → f.node + d ≡ 4 * g.node + 1
      → HasWord f.counted e → raw_of e ≤ raw_of x → MayStandOver e (node t.nodes d)
      → HuntTied k (set s.words (word_of g.node) f.stored) (set qs id (guarding (exchanged_third v.post.own.guards))) (left h.history)
  sifts_third g b f gs guards d x e hole child pair word under may =
      let p' : Post HuntPart = guarding (exchanged_third v.post.own.guards) in
      let g' : Guard = guard g.node f.stored f.counted in let f' : Guard = guard f.node f.stored g.counted in
      let has_first : Contains v.post.own.guards g = subst (λ (z : List Guard). Contains z g) (sym guards) (in_first g (b ∷ f ∷ gs)) in
      let has_third : Contains v.post.own.guards f = subst (λ (z : List Guard). Contains z f) (sym guards) (in_later g f (b ∷ f ∷ gs) (in_later b f (f ∷ gs) (in_first f gs))) in
      let apart_here : HaveNodesApart (g ∷ b ∷ f ∷ gs) = subst HaveNodesApart guards (t.tree.names id v.post here).apart in
      let at_g : node t.nodes g.node ≡ Hole x = guard_counts hunt_nodes s.words qs t.nodes t.tree id v.post here g has_first ∙ hole in
      let at_f : node t.nodes f.node ≡ f.counted = guard_counts hunt_nodes s.words qs t.nodes t.tree id v.post here f has_third in
      let is : p'.own.guards ≡ g' ∷ b ∷ f' ∷ gs = ap exchanged_third guards in
      let facts = event_sift k.seats k.capacity t.size t.of t.nodes (left h.history) g.node f.node d x e t.facts at_g child pair (subst (λ (z : Node). HasWord z e) (sym at_f) word) under may in
      node_change p' g.node f.stored t.of (set (set t.nodes g.node f.counted) f.node g.counted) (left h.history) refl (ap nodes_of is ∙ sym (ap nodes_of guards))
      (exchange_third hunt_nodes s.words qs t.nodes t.tree id v.post here (λ o l. refl) g b f gs p' guards refl refl (within g has_first).1) t.size
      (subst (λ (z : Node). HeapFacts k.seats k.capacity t.size t.of (set (set t.nodes g.node f.counted) f.node z) (left h.history)) (sym hole)
      (subst (λ (z : Node). HeapFacts k.seats k.capacity t.size t.of (set (set t.nodes g.node z) f.node (Hole x)) (left h.history)) at_f facts))
      (size_stays p' g.node f.stored refl refl refl) (steady_inserts k s h id v at p' (word_of g.node) f.stored (omega arith) (steady_guards p'.own.guards)) refl refl

  -- the post of a seat whose insert made the first guard's node Busy
  abbrev pub leafed : Guard → ℕ → Entry → Post HuntPart
  leafed g x e = record v.post {
    flight = Some e;
    own = record v.post.own { guards = refilled x (Busy v.post.number e) v.post.own.guards; size_counted = g.node; place = g.node; climbing = 1 };
  }

  -- a new leaf, under its lock and the heap's
  pub leafs : (g : Guard) (gs : List Guard) (x : ℕ) (e : Entry) → v.post.own.guards ≡ g ∷ gs → Contains v.post.locks heap_lock → 0 < v.post.number
      → v.post.own.climbing ≡ 0 → g.node ≡ v.post.own.size_counted + 1 → g.node ≤ k.capacity
      → HuntTied k (set s.words (word_of g.node) x) (set qs id (leafed g x e)) (left h.history)
  leafs g gs x e guards locked positive idle next room =
      let i : ℕ = g.node in let n : ℕ = v.post.number in let p' : Post HuntPart = leafed g x e in let ws : List ℕ = set s.words (word_of i) x in
      let held = t.held id v.post here locked in
      let size_is : v.post.own.size_counted ≡ t.size = held.0 in
      let low = number_low k s h id v at positive in let low_seats = low.0 in let low_16 = low.1 in
      let old = t.told id v.post here positive in
      let old_waits = old.told.told in
      let new : Flight = flight e (t.size + 1) 1 in
      let of' : ℕ → Flight = with_flight t.of n new in
      let other = with_flight_is t.of n new in
      let facts = event_leaf k.seats k.capacity t.size t.of of' t.nodes (left h.history) n e t.facts (omega arith) (omega arith, low_seats) (omega arith) other in
      let place : t.size + 1 ≡ i = omega arith in
      let is : p'.own.guards ≡ guard i x (Busy n e) ∷ gs = ap (refilled x (Busy n e)) guards in
      let same : (m : ℕ) → m ≤ 16 → letter_count m ws (set qs id p') ≡ letter_count m s.words qs = letters_kept k s h id v at p' (word_of i) x (omega arith) refl in
      let lock : get_or ws heap_lock 0 ≡ get_or s.words heap_lock 0 = get_or-set_other s.words (word_of i) heap_lock x 0 (omega arith) in
      let there : get_or ws size_word 0 ≡ get_or s.words size_word 0 = get_or-set_other s.words (word_of i) size_word x 0 (omega arith) in
      let mine = (h.each id v at).held heap_lock locked in
      let is_mine = mine.1 in
      node_change p' i x of' (set t.nodes i (Busy n e)) (left h.history) refl (ap nodes_of is ∙ sym (ap nodes_of guards))
      (refill_keeps hunt_nodes s.words qs t.nodes t.tree id v.post here g gs x (Busy n e) p' guards is refl (within g (subst (λ (z : List Guard). Contains z g) (sym guards) (in_first g gs))).1)
      i (subst (λ (z : ℕ). HeapFacts k.seats k.capacity z of' (set t.nodes z (Busy n e)) (left h.history)) place facts)
      (record {
        free = λ e. absurd (omega arith);
        mine = λ has. (refl, there ∙ held.1);
        theirs = inr locked;
      })
      (record {
        told = λ pos. record {
          told = record { most = omega arith; told = let a : (of' n).waiting ≡ 1 = ap (λ (z : Flight). z.waiting) other.own in let b = same n low_16 in omega arith };
          place = λ one. ap (λ (z : Flight). z.place) other.own ∙ place;
          flies = λ one. (e, refl, ap (λ (z : Flight). z.entry) other.own);
          rests = λ zero. absurd (omega arith);
        };
        others = λ m pos m_low ne. let q = other.others m ne in record {
          waits = let a : (of' m).waiting ≡ (t.of m).waiting = ap (λ (z : Flight). z.waiting) q in let b = same m m_low in omega arith;
          place = ap (λ (z : Flight). z.place) q;
          entry = ap (λ (z : Flight). z.entry) q;
        };
        borne = λ m w. dite (ℕ_discrete m n) (λ q. inr (q, omega arith)) (λ ne. inl (subst (λ (z : Flight). 1 ≤ z.waiting) (other.others m ne) w));
      }) refl refl
