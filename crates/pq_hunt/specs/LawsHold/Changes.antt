-- A step of a seat keeps the heap's facts where it keeps each of them.
use Rattle.std.proofs.Common.{◌≡◌, ◌≢◌, ◌⊎◌, ℕ, ◌+◌, ◌<◌, ◌≤◌, true, false, List, [], map, length, get_or, set, min, inl, inr, ⊎_elim, refl, sym, ap, ◌∙◌, subst, arith, get_or-set_other}
use Rattle.std.specs.Prelude.{Contains, slice_index}
use mathlib.Core.Option.{some}
use lib.ListN.{get_elem?}
use native.Mathlib.Decide.{ℕ_discrete}
use mathlib.Core.Logic.{dite}
use Rattle.atomic_table.proofs.Lists.{at_set, at_map, set_else}
use Rattle.pq_words.specs.declared.entries.Entry.{Entry}
use Rattle.pq_model.specs.History.{left}
use Rattle.pq_seats.specs.declared.views.Limits.{Limits}
use Rattle.pq_seats.specs.declared.views.Post.{Post}
use Rattle.pq_seats.specs.declared.views.View.{View}
use Rattle.pq_seats.specs.Views.{post_of}
use Rattle.pq_seats.specs.Letters.{back, owed_count, letter_count}
use Rattle.pq_seats.specs.Rules.{Table, Holds}
use Rattle.pq_seats.proofs.Lists.{at_unmap, put_here, same_at, sum_kept}
use Rattle.pq_nodes.specs.Facts.{NodeFacts}
use Rattle.pq_hunt.specs.declared.nodes.Node.{Node}
use Rattle.pq_hunt.specs.Flights.{Flight}
use Rattle.pq_hunt.specs.Facts.{HeapFacts}
use Rattle.pq_hunt.specs.Guards.{Guard}
use Rattle.pq_hunt.specs.declared.views.HuntPart.{HuntPart}
use Rattle.pq_hunt.specs.Layout.{heap_lock, size_word}
use Rattle.pq_hunt.specs.Ties.{IsInserting, HuntTied}
use Rattle.pq_hunt.specs.Rules.{hunt_rule}
use Rattle.pq_hunt.specs.NodeParts.{hunt_nodes}
use Rattle.pq_hunt.specs.LawsHold.Frames.{one_number, number_low}

module _ (k : Limits) (s : Table HuntPart) (h : Holds hunt_rule k s) (id : ℕ) (v : View HuntPart) (at : get_elem? s.views id ≡ some v) where
  abbrev pub ps : List (Post HuntPart)
  ps = map post_of s.views

  abbrev pub t : HuntTied k s.words ps (left h.history)
  t = h.tied

  pub pat : get_elem? ps id ≡ some v.post
  pat = at_map post_of s.views id v at

  -- of a seat of another number: its insert in flight is as it was
  pub record IsAsItWas (p' : Post HuntPart) (ws : List ℕ) (of' : ℕ → Flight) (n : ℕ) : Type 0 where
    pub waits : (of' n).waiting + letter_count n ws (set ps id p') ≡ (t.of n).waiting + letter_count n s.words ps
    pub place : (of' n).place ≡ (t.of n).place
    pub entry : (of' n).entry ≡ (t.of n).entry

  -- What a step that makes the seat's post p', and the words ws, does to the size, with the size that counts then: it
  -- stands in its word, or as the seat's view names it, and nobody else's view names another
  pub record Sizes (p' : Post HuntPart) (ws : List ℕ) (size : ℕ) : Type 0 where
    pub free : slice_index ws heap_lock ≡ 0 → slice_index ws size_word ≡ size
    pub mine : Contains p'.locks heap_lock → (p'.own.size_counted ≡ size) × (slice_index ws size_word ≡ p'.own.size_stored)
    pub theirs : ((size ≡ t.size) × (slice_index ws size_word ≡ slice_index s.words size_word)) ⊎ Contains v.post.locks heap_lock

  -- to the inserts in flight
  pub record Inserts (p' : Post HuntPart) (ws : List ℕ) (of : ℕ → Flight) : Type 0 where
    pub told : 0 < p'.number → IsInserting ws (set ps id p') of p'
    pub others : (n : ℕ) → 0 < n → n ≤ 16 → n ≢ v.post.number → IsAsItWas p' ws of n
    pub borne : (n : ℕ) → 1 ≤ (of n).waiting → (1 ≤ (t.of n).waiting) ⊎ ((n ≡ v.post.number) × (0 < n))

  -- and to the letters
  pub record Letters (p' : Post HuntPart) (ws : List ℕ) : Type 0 where
    pub owing : (p'.owed ≡ []) ⊎ ((g : Guard) × Contains p'.own.guards g × (g.node ≡ 1))
    pub sent : (n : ℕ) → 0 < n → n ≤ 16 → slice_index ws n < back
    pub owes : (x : ℕ × ℕ) → Contains p'.owed x → x.1 < back
    pub lettered : p'.own.lettered ≡ true → slice_index ws p'.number ≢ 0
    pub written : (n : ℕ) → 0 < n → n ≤ 16 → n ≢ v.post.number → slice_index s.words n ≢ 0 → slice_index ws n ≢ 0

  pub record Change (p' : Post HuntPart) (ws : List ℕ) (m' : List Entry) : Type 0 where
    pub number : p'.number ≡ v.post.number
    pub long : length ws ≡ length s.words
    pub size : ℕ
    pub of : ℕ → Flight
    pub nodes : List Node
    pub tree : NodeFacts hunt_nodes ws (set ps id p') nodes
    pub facts : HeapFacts k.seats k.capacity size of nodes m'
    pub sizes : Sizes p' ws size
    pub inserts : Inserts p' ws of
    pub letters : Letters p' ws

  -- who has the heap's lock is one
  one_heap : (j : ℕ) (q : Post HuntPart) → j ≢ id → get_elem? ps j ≡ some q → Contains q.locks heap_lock → Contains v.post.locks heap_lock → ⊥
  one_heap j q ne to has mine =
      let r = at_unmap post_of s.views j q to in
      let a = (h.each j r.0 r.1).held heap_lock (subst (λ (z : Post HuntPart). Contains z.locks heap_lock) (sym r.2) has) in
      let b = (h.each id v at).held heap_lock mine in
      let same : v.post.number ≡ r.0.post.number = sym b.1 ∙ a.1 in
      let some_number = b.2 in
      ne (one_number k s h id j v.post q pat to (omega arith) (same ∙ ap (λ (z : Post HuntPart). z.number) r.2))

  -- a seat's number is at most 16
  low_at : (j : ℕ) (q : Post HuntPart) → get_elem? ps j ≡ some q → 0 < q.number → q.number ≤ 16
  low_at j q to pos = let r = at_unmap post_of s.views j q to in let is : r.0.post.number ≡ q.number = ap (λ (z : Post HuntPart). z.number) r.2 in
      let low = (number_low k s h j r.0 r.1 (omega arith)).1 in omega arith

  pub changed : (p' : Post HuntPart) (ws : List ℕ) (m' : List Entry) → Change p' ws m' → HuntTied k ws (set ps id p') m'
  changed p' ws m' c =
      let differs : (i : ℕ) (q : Post HuntPart) → i ≢ id → get_elem? ps i ≡ some q → 0 < q.number → q.number ≢ v.post.number =
      (λ i q d to pos e. d (one_number k s h id i v.post q pat to (omega arith) (sym e))) in
      record {
        long = c.long ∙ t.long;
        seated = t.seated;
        size = c.size;
        of = c.of;
        nodes = c.nodes;
        tree = c.tree;
        facts = c.facts;
        free = c.sizes.free;
        held = λ j q to has. ⊎_elim
            (λ e. subst (λ (z : Post HuntPart). (z.own.size_counted ≡ c.size) × (slice_index ws size_word ≡ z.own.size_stored)) e.1 (c.sizes.mine (subst (λ (z : Post HuntPart). Contains z.locks heap_lock) (sym e.1) has)))
            (λ a. let old = t.held j q a.1 has in ⊎_elim (λ e. (old.0 ∙ sym e.0, e.1 ∙ old.1)) (λ mine. absurd (one_heap j q a.0 a.1 has mine)) c.sizes.theirs)
            (at_set ps id j p' q to);
        told = λ j q to pos. ⊎_elim
            (λ e. subst (λ (z : Post HuntPart). IsInserting ws (set ps id p') c.of z) e.1 (c.inserts.told (let is : p'.number ≡ q.number = ap (λ (z : Post HuntPart). z.number) e.1 in omega arith)))
            (λ a. let old = t.told j q a.1 pos in let was = c.inserts.others q.number pos (low_at j q a.1 pos) (differs j q a.0 a.1 pos) in record {
              told = record { most = old.told.most; told = was.waits ∙ old.told.told };
              place = λ e. was.place ∙ old.place e;
              flies = λ e. let f = old.flies e in (f.0, f.1, was.entry ∙ f.2);
              rests = old.rests;
            })
            (at_set ps id j p' q to);
        borne = λ n w. ⊎_elim
            (λ old. let b = t.borne n old in dite (ℕ_discrete b.0 id)
            (λ e. let is : b.1 ≡ v.post = same_at ps id b.1 v.post (subst (λ (z : ℕ). get_elem? ps z ≡ some b.1) e b.2) pat in
            (id, p', put_here ps id v.post p' pat, c.number ∙ (ap (λ (z : Post HuntPart). z.number) (sym is) ∙ b.3), b.4))
            (λ ne. (b.0, b.1, set_else ps id b.0 p' ne ∙ b.2, b.3, b.4)))
            (λ own. (id, p', put_here ps id v.post p' pat, c.number ∙ sym own.0, own.1))
            (c.inserts.borne n w);
        owing = λ j q to. ⊎_elim
            (λ e. subst (λ (z : Post HuntPart). (z.owed ≡ []) ⊎ ((g : Guard) × Contains z.own.guards g × (g.node ≡ 1))) e.1 c.letters.owing)
            (λ a. t.owing j q a.1)
            (at_set ps id j p' q to);
        sent = c.letters.sent;
        owes = λ j q x to has. ⊎_elim
            (λ e. c.letters.owes x (subst (λ (z : Post HuntPart). Contains z.owed x) (sym e.1) has))
            (λ a. t.owes j q x a.1 has)
            (at_set ps id j p' q to);
        lettered = λ j q to is. ⊎_elim
            (λ e. subst (λ (z : Post HuntPart). z.own.lettered ≡ true → slice_index ws z.number ≢ 0) e.1 c.letters.lettered is)
            (λ a. let old = t.lettered j q a.1 is in dite (ℕ_discrete q.number 0)
            (λ e. let r = at_unmap post_of s.views j q a.1 in
            let idles = (h.each j r.0 r.1).empty (ap (λ (z : Post HuntPart). z.number) r.2 ∙ e) in
            let bad : false ≡ true = ap (λ (z : Post HuntPart). z.own.lettered) (sym idles ∙ r.2) ∙ is in absurd (cc))
            (λ ne. c.letters.written q.number (omega arith) (low_at j q a.1 (omega arith)) (differs j q a.0 a.1 (omega arith)) old))
            (at_set ps id j p' q to);
      }

  -- a word that is no letter, and a seat that owes what it owed
  pub letters_kept : (p' : Post HuntPart) (i x : ℕ) → 16 < i → p'.owed ≡ v.post.owed → (n : ℕ) → n ≤ 16 → letter_count n (set s.words i x) (set ps id p') ≡ letter_count n s.words ps
  letters_kept p' i x far owed n low =
      let a : get_or (set s.words i x) n 0 ≡ get_or s.words n 0 = get_or-set_other s.words i n x 0 (λ e. omega arith) in
      let b = sum_kept (λ (p : Post HuntPart). owed_count n p.owed) ps id v.post p' pat (ap (owed_count n) owed) in (λ j. min (a j) 1 + b j)

  -- the seat's number, and what it says of its insert and of its letters, are as they were
  pub record IsSteady (p' : Post HuntPart) : Type 0 where
    pub number : p'.number ≡ v.post.number
    pub flight : p'.flight ≡ v.post.flight
    pub owed : p'.owed ≡ v.post.owed
    pub place : p'.own.place ≡ v.post.own.place
    pub climbing : p'.own.climbing ≡ v.post.own.climbing
    pub lettered : p'.own.lettered ≡ v.post.own.lettered

  pub steady_inserts : (p' : Post HuntPart) (i x : ℕ) → 16 < i → IsSteady p' → Inserts p' (set s.words i x) t.of
  steady_inserts p' i x far y =
      let same = letters_kept p' i x far y.owed in record {
        told = λ pos. let number = y.number in let old = t.told id v.post pat (omega arith) in
            let low = (number_low k s h id v at (omega arith)).1 in
            let flight : t.of p'.number ≡ t.of v.post.number = ap t.of y.number in
            let waiting : (t.of p'.number).waiting ≡ (t.of v.post.number).waiting = ap (λ (z : Flight). z.waiting) flight in
            let letters : letter_count p'.number (set s.words i x) (set ps id p') ≡ letter_count v.post.number s.words ps = same p'.number (omega arith) ∙ ap (λ (z : ℕ). letter_count z s.words ps) y.number in
            let most = old.told.most in let waits = old.told.told in let climbing = y.climbing in record {
              told = record { most = omega arith; told = omega arith };
              place = λ e. ap (λ (z : Flight). z.place) flight ∙ (old.place (sym y.climbing ∙ e) ∙ sym y.place);
              flies = λ e. let f = old.flies (sym y.climbing ∙ e) in (f.0, y.flight ∙ f.1, ap (λ (z : Flight). z.entry) flight ∙ f.2);
              rests = λ e. y.flight ∙ old.rests (sym y.climbing ∙ e);
            };
        others = λ n pos low ne. record { waits = ap (λ (z : ℕ). (t.of n).waiting + z) (same n low); place = refl; entry = refl };
        borne = λ n w. inl w;
      }

  pub steady_letters : (p' : Post HuntPart) (i x : ℕ) → 16 < i → IsSteady p' → ((g : Guard) → Contains v.post.own.guards g → g.node ≡ 1 → (v.post.owed ≡ []) ⊎ ((g' : Guard) × Contains p'.own.guards g' × (g'.node ≡ 1)))
      → Letters p' (set s.words i x)
  steady_letters p' i x far y root =
      let same : (n : ℕ) → n ≤ 16 → get_or (set s.words i x) n 0 ≡ get_or s.words n 0 = (λ n low. get_or-set_other s.words i n x 0 (λ e. omega arith)) in record {
        owing = ⊎_elim (λ e. inl (y.owed ∙ e)) (λ g. ⊎_elim (λ e. inl (y.owed ∙ e)) (λ g'. inr g') (root g.0 g.1 g.2)) (t.owing id v.post pat);
        sent = λ n pos low. let e = same n low in let old = t.sent n pos low in omega arith;
        owes = λ z has. t.owes id v.post z pat (subst (λ (w : List (ℕ × ℕ)). Contains w z) y.owed has);
        lettered = λ is z. let old = t.lettered id v.post pat (sym y.lettered ∙ is) in dite (ℕ_discrete v.post.number 0)
            (λ e. let idles = (h.each id v at).empty e in let bad : false ≡ true = ap (λ (w : Post HuntPart). w.own.lettered) (sym idles) ∙ (sym y.lettered ∙ is) in absurd (cc))
            (λ ne. let low = (number_low k s h id v at (omega arith)).1 in
            old (sym (same v.post.number low) ∙ (ap (λ (w : ℕ). get_or (set s.words i x) w 0) (sym y.number) ∙ z)));
        written = λ n pos low ne old z. old (sym (same n low) ∙ z);
      }
