-- What a draw of the heap has to show, that its marks are legal and the heap's facts kept; and what each draw has of it.
use Rattle.std.proofs.Common.{◌≡◌, ◌≢◌, ◌⊎◌, Some, ℕ, zero, suc, ◌+◌, ◌-◌, ◌<◌, ◌≤◌, Bool, true, false, cond, eqb, List, [], ◌∷◌, ◌++◌, map, length, get_or, set, min, inl, inr, ⊎_elim, refl, sym, ap, ◌∙◌, subst, arith, get_or-set_other, length-set, eq-eqb}
use Rattle.std.specs.Prelude.{Contains}
use Rattle.std.specs.List.{sum_by}
use Rattle.std.proofs.lemmas.List.Sums.{sum_by-cons, sum_by-set}
use Rattle.std.proofs.lemmas.List.Elements.{Contains-append_cases}
use mathlib.Core.Option.{some}
use lib.ListN.{get_elem?}
use native.Mathlib.Decide.{ℕ_discrete}
use mathlib.Core.Logic.{dite}
use Rattle.atomic_table.proofs.Lists.{at_set}
use Rattle.pq_words.specs.declared.entries.Entry.{Entry}
use Rattle.pq_model.specs.declared.marks.Act.TheVariants.{Remove}
use Rattle.pq_model.specs.History.{left}
use Rattle.pq_seats.specs.declared.views.Limits.{Limits}
use Rattle.pq_seats.specs.declared.views.Post.{Post}
use Rattle.pq_seats.specs.declared.views.View.{View}
use Rattle.pq_seats.specs.Letters.{owed_count, letter_count}
use Rattle.pq_seats.specs.Batches.{Batch, insert_of, letters_of, letters_from, own_place}
use Rattle.pq_seats.specs.Posts.{placed_post}
use Rattle.pq_seats.specs.Rules.{Table, Holds}
use Rattle.pq_seats.specs.Allowed.{helps, Waits}
use Rattle.pq_seats.proofs.Lists.{sum_set, in_cases, not_in}
use Rattle.pq_seats.proofs.Marks.{new-count}
use Rattle.pq_seats.proofs.Lengths.{short}
use Rattle.pq_nodes.specs.Guards.{IsGuarded}
use Rattle.pq_nodes.specs.Guards.{IsSetAt}
use Rattle.pq_nodes.proofs.Written.{two_place_sums}
use Rattle.pq_hunt.specs.declared.nodes.Node.{Node}
use Rattle.pq_hunt.specs.declared.nodes.Node.TheVariants.{Empty, Available, Busy, Hole}
use Rattle.pq_hunt.specs.Nodes.{node, busy_of}
use Rattle.pq_hunt.specs.Order.{HasWord}
use Rattle.pq_hunt.specs.Flights.{Flight, flight}
use Rattle.pq_hunt.specs.Flights as flights
use Rattle.pq_hunt.specs.Facts.{HeapFacts}
use Rattle.pq_hunt.specs.Marks.{helped_mark}
use Rattle.pq_hunt.specs.Guards.{Guard}
use Rattle.pq_hunt.specs.declared.views.HuntPart.{HuntPart}
use Rattle.pq_hunt.specs.Layout.{size_word, heap_lock}
use Rattle.pq_hunt.specs.Batches.{entry_at, flight_at}
use Rattle.pq_nodes.specs.Facts.{locks_in, words_in}
use Rattle.pq_hunt.specs.Ties.{HuntTied}
use Rattle.pq_hunt.specs.Rules.{hunt_rule}
use Rattle.pq_nodes.proofs.Keeping.{guard_counts, guarded_on, step_keeps, same_names}
use Rattle.pq_nodes.proofs.Tables.{same_locks, same_words}
use Rattle.pq_hunt.specs.LawsHold.Changes.{ps, pat, changed}
use Rattle.pq_nodes.specs.Views.{nodes_of}
use Rattle.pq_nodes.proofs.GuardLists.{in_same}
use Rattle.pq_hunt.specs.NodeParts.{hunt_nodes}
use Rattle.pq_nodes.specs.Parts.{kind_of}

-- the inserts that a node holds, as marks, and as letters of an owner
pub marks_flight : (v : Node) → map insert_of (flight_at v) ≡ helped_mark v
marks_flight Empty = refl
marks_flight (Available e) = refl
marks_flight (Busy o e) = refl
marks_flight (Hole e) = refl

pub helps_flight : (n : ℕ) (v : Node) → helps n (flight_at v) ≡ busy_of n v
helps_flight n Empty = refl
helps_flight n (Available e) = refl
helps_flight n (Busy o e) = by_test (eqb o n)
  where
    by_test : (b : Bool) → 0 + cond b 1 0 ≡ cond b 1 0
    by_test true = refl
    by_test false = refl
helps_flight n (Hole e) = refl

pub has_entry : (v : Node) (e : Entry) → HasWord v e → entry_at v ≡ e
has_entry v e word = ⊎_elim (λ q. ap entry_at q) (λ q. ap entry_at q.1) word

-- who is in such a list is the owner of the Busy node
pub in_flight : (v : Node) (x : ℕ × Entry) → Contains (flight_at v) x → v ≡ Busy x.0 x.1
in_flight Empty x has = absurd (not_in x has)
in_flight (Available e) x has = absurd (not_in x has)
in_flight (Busy o e) x has = ⊎_elim (λ q. ap (λ (z : ℕ × Entry). Busy z.0 z.1) q) (λ r. absurd (not_in x r)) (in_cases (o, e) x [] has)
in_flight (Hole e) x has = absurd (not_in x has)

-- a letter's place is near the first
letter_near : (first : ℕ) (hs : List (ℕ × Entry)) (x : ℕ × ℕ) → Contains (letters_of first hs) x → x.1 ≤ first + length hs
letter_near first [] x has = absurd (not_in x has)
letter_near first (y ∷ ys) x has = ⊎_elim
    (λ e. let is : first + 1 ≡ x.1 = ap (λ (z : ℕ × ℕ). z.1) e in omega arith)
    (λ r. let far = letter_near (first + 1) ys x r in omega arith)
    (in_cases (y.0, first + 1) x (letters_of (first + 1) ys) has)

letters_near : (first : ℕ) (b : Batch) (x : ℕ × ℕ) → Contains (letters_from first b) x → x.1 ≤ first + length b.before + 1 + length b.after
letters_near first b x has = ⊎_elim
    (λ l. let a = letter_near first b.before x l in omega arith)
    (λ r. let a = letter_near (own_place first b + 1) b.after x r in omega arith)
    (Contains-append_cases (letters_of first b.before) (letters_of (own_place first b + 1) b.after) x has)

-- a batch of the own mark alone
pub own_apart : (n m : ℕ) → helps m [] + helps m [] + cond (eqb n m) 1 0 ≤ 1
own_apart n m = by_test (eqb n m)
  where
    by_test : (b : Bool) → helps m [] + helps m [] + cond b 1 0 ≤ 1
    by_test true = omega arith
    by_test false = omega arith

module _ (k : Limits) (s : Table HuntPart) (h : Holds hunt_rule k s) (id : ℕ) (v : View HuntPart) (at : get_elem? s.views id ≡ some v) where
  abbrev qs : List (Post HuntPart)
  qs = ps k s h id v at

  abbrev t : HuntTied k s.words qs (left h.history)
  t = h.tied

  abbrev here : get_elem? qs id ≡ some v.post
  here = pat k s h id v at

  abbrev first : ℕ
  first = length h.history

  -- the post behind the draw
  abbrev pub drawn_post : Batch → HuntPart → Post HuntPart
  drawn_post b own = placed_post v.post b own first

  -- Who waits has a seat that waits
  pub waits_for : (v.post.owed ≡ []) → (i o : ℕ) (e : Entry) → node t.nodes i ≡ Busy o e → Waits s o e
  waits_for owed i o e is =
      let busy_one : 1 ≤ (t.of o).waiting = let a = t.facts.flown.once o in let b = busy_there o e i t.nodes is in omega arith in
      let b = t.borne o busy_one in let number = b.3 in let seated = b.4 in
      let told = t.told b.0 b.1 b.2 (omega arith) in
      let same_wait : (t.of b.1.number).waiting ≡ (t.of o).waiting = ap (λ (z : ℕ). (t.of z).waiting) b.3 in
      let most = told.told.most in let all = told.told.told in
      let f = told.flies (omega arith) in
      let entry : e ≡ f.0 = t.facts.flown.entry i o e is ∙ (ap (λ (z : ℕ). (t.of z).entry) (sym b.3) ∙ f.2) in
      let letters : letter_count b.1.number s.words qs ≡ letter_count o s.words qs = ap (λ (z : ℕ). letter_count z s.words qs) b.3 in
      record {
        id = b.0;
        post = b.1;
        stands = b.2;
        number = b.3;
        seated = λ z. omega arith;
        flight = f.1 ∙ ap Some (sym entry);
        unwritten = omega arith;
      }
    where
      busy_there : (o : ℕ) (e : Entry) (i : ℕ) (l : List Node) → node l i ≡ Busy o e → 1 ≤ sum_by (busy_of o) l
      busy_there o e i [] is = absurd (let bad : Empty ≡ Busy o e = is in cc)
      busy_there o e zero (x ∷ xs) is = let c = sum_by-cons (busy_of o) x xs in let a = ap (busy_of o) is in let b : busy_of o (Busy o e) ≡ 1 = ap (λ (z : Bool). cond z 1 0) (eq-eqb o o refl) in omega arith
      busy_there o e (suc i) (x ∷ xs) is = let c = sum_by-cons (busy_of o) x xs in let r = busy_there o e i xs is in omega arith

  -- the facts that a draw has to show, beside the legality of its marks
  pub record Drawn (b : Batch) (own : HuntPart) (m' : List Entry) : Type 0 where
    pub same : nodes_of own.guards ≡ nodes_of v.post.own.guards
    pub size : ℕ
    pub of : ℕ → Flight
    pub nodes : List Node
    pub guarded : IsGuarded (kind_of hunt_nodes) (locks_in s.words) (words_in s.words) (set qs id (drawn_post b own)) nodes
    pub facts : HeapFacts k.seats k.capacity size of nodes m'
    pub sized : ((size ≡ t.size) × (own.size_counted ≡ v.post.own.size_counted)) ⊎ (Contains v.post.locks heap_lock × (own.size_counted ≡ size))
    pub stored : own.size_stored ≡ v.post.own.size_stored
    pub lettered : own.lettered ≡ v.post.own.lettered
    -- no insert of the seat is in flight any more
    pub done : own.climbing ≡ 0
    pub waits_not : (of v.post.number).waiting ≡ 0
    pub unlettered : letter_count v.post.number s.words qs ≡ 0
    pub others : (n : ℕ) → n ≢ v.post.number
        → ((of n).waiting + (helps n b.before + helps n b.after) ≡ (t.of n).waiting) × ((of n).place ≡ (t.of n).place) × ((of n).entry ≡ (t.of n).entry)
    pub own_helps : helps v.post.number b.before + helps v.post.number b.after ≡ 0
    pub few : length b.before + length b.after ≤ 2
    pub root : (letters_from first b ≡ []) ⊎ ((g : Guard) × Contains v.post.own.guards g × (g.node ≡ 1))

  pub draws_tie : (b : Batch) (own : HuntPart) (m' : List Entry) (new : ℕ) → 0 < v.post.number → v.post.owed ≡ [] → Drawn b own m'
      → HuntTied k (set s.words 0 new) (set qs id (drawn_post b own)) m'
  draws_tie b own m' new positive owed d =
      let p' : Post HuntPart = drawn_post b own in let ws : List ℕ = set s.words 0 new in let n : ℕ = v.post.number in
      let word : (i : ℕ) → 0 < i → get_or ws i 0 ≡ get_or s.words i 0 = (λ i pos. get_or-set_other s.words 0 i new 0 (λ e. omega arith)) in
      let owed_is : p'.owed ≡ letters_from first b = ap (λ (z : List (ℕ × ℕ)). z ++ letters_from first b) owed in
      let letters : (m : ℕ) → 0 < m → letter_count m ws (set qs id p') ≡ letter_count m s.words qs + (helps m b.before + helps m b.after) =
      (λ m pos. let a = ap (λ (z : ℕ). min z 1) (word m pos) in let q = sum_set (λ (p : Post HuntPart). owed_count m p.owed) qs id v.post p' here in
      let o = ap (owed_count m) owed in let o' = ap (owed_count m) owed_is in let c = new-count m first v.post.number Remove b in omega arith) in
      let lock = word heap_lock (omega arith) in let there = word size_word (omega arith) in
      changed k s h id v at p' ws m' (record {
        number = refl;
        long = length-set s.words 0 new;
        size = d.size;
        of = d.of;
        nodes = d.nodes;
        tree = step_keeps hunt_nodes s.words qs t.nodes t.tree id v.post here ws p' d.nodes
            (guarded_on (kind_of hunt_nodes) (locks_in s.words) (locks_in ws) (words_in s.words) (words_in ws) (set qs id p') (set qs id p') d.nodes
            (same_locks s.words 0 new (omega arith)) (same_words s.words 0 new (omega arith)) (λ j q g to has. (q, to, has)) d.guarded)
            (same_names hunt_nodes s.words qs t.nodes t.tree id v.post here p' refl d.same);
        facts = d.facts;
        sizes = record {
          free = λ e. ⊎_elim (λ q. there ∙ (t.free (sym lock ∙ e) ∙ sym q.0))
              (λ q. let mine = (h.each id v at).held heap_lock q.0 in let is_mine = mine.1 in absurd (omega arith)) d.sized;
          mine = λ has. let old = t.held id v.post here has in (⊎_elim (λ q. q.1 ∙ (old.0 ∙ sym q.0)) (λ q. q.1) d.sized, there ∙ (old.1 ∙ sym d.stored));
          theirs = ⊎_elim (λ q. inl (q.0, there)) (λ q. inr q.0) d.sized;
        };
        inserts = record {
          told = λ pos. record {
            told = record { most = let z = d.done in omega arith; told = let a = letters n positive in let c = d.own_helps in let e = d.waits_not in let u = d.unlettered in let z = d.done in omega arith };
            place = λ e. let z = d.done in absurd (omega arith);
            flies = λ e. let z = d.done in absurd (omega arith);
            rests = λ e. refl;
          };
          others = λ m pos low ne. let o = d.others m ne in let w = o.0 in record { waits = let a = letters m pos in omega arith; place = o.1; entry = o.2 };
          borne = λ m w. dite (ℕ_discrete m n)
              (λ e. let z = d.waits_not in let same : (d.of m).waiting ≡ (d.of n).waiting = ap (λ (y : ℕ). (d.of y).waiting) e in absurd (omega arith))
              (λ ne. let o = (d.others m ne).0 in inl (omega arith));
        };
        letters = record {
          owing = ⊎_elim (λ e. inl (owed_is ∙ e)) (λ g. let r = in_same own.guards v.post.own.guards (sym d.same) g.0 g.1 in inr (r.0, r.1, r.2 ∙ g.2)) d.root;
          sent = λ m pos low. let e = word m pos in let old = t.sent m pos low in omega arith;
          owes = λ x has. let near = letters_near first b x (subst (λ (z : List (ℕ × ℕ)). Contains z x) owed_is has) in let few = d.few in let low = short hunt_rule k s h in omega arith;
          lettered = λ is z. t.lettered id v.post here (sym d.lettered ∙ is) (sym (word n positive) ∙ z);
          written = λ m pos low ne old z. old (sym (word m pos) ∙ z);
        };
      })

  -- Of a seat that has no insert in flight: it waits for none, and has no letter
  pub own_idle : 0 < v.post.number → v.post.own.climbing ≡ 0 → ((t.of v.post.number).waiting ≡ 0) × (letter_count v.post.number s.words qs ≡ 0)
  own_idle positive idle = let old = (t.told id v.post here positive).told.told in (omega arith, omega arith)

  -- what the nodes hold of an owner is what it waits for
  pub one_waits : (n i : ℕ) → i < length t.nodes → busy_of n (node t.nodes i) ≤ (t.of n).waiting
  one_waits n i within = let once = t.facts.flown.once n in let a = sum_by-set (busy_of n) t.nodes i Empty Empty within in omega arith

  pub two_wait : (n i j : ℕ) → i ≢ j → i < length t.nodes → j < length t.nodes → busy_of n (node t.nodes i) + busy_of n (node t.nodes j) ≤ (t.of n).waiting
  two_wait n i j ne i_in j_in = let once = t.facts.flown.once n in let a = two_place_sums (busy_of n) t.nodes i Empty j Empty Empty ne i_in j_in in omega arith

  -- the flights of owners that wait for so much less
  abbrev pub fewer : (ℕ → ℕ) → ℕ → Flight
  fewer less q = flight (t.of q).entry (t.of q).place ((t.of q).waiting - less q)

  pub fewer_waits : (less : ℕ → ℕ) → ((q : ℕ) → less q ≤ (t.of q).waiting) → flights.WaitsLess t.of (fewer less) less
  fewer_waits less enough = record { entries = λ q. refl; places = λ q. refl; waits = λ q. let e = enough q in omega arith }

  pub unchanged_guards : (b : Batch) (own : HuntPart) → own.guards ≡ v.post.own.guards → IsGuarded (kind_of hunt_nodes) (locks_in s.words) (words_in s.words) (set qs id (drawn_post b own)) t.nodes
  unchanged_guards b own same = guarded_on (kind_of hunt_nodes) (locks_in s.words) (locks_in s.words) (words_in s.words) (words_in s.words) qs (set qs id (drawn_post b own)) t.nodes (λ i. refl) (λ i. refl)
      (λ j q g to has. ⊎_elim
      (λ e. (v.post, subst (λ (z : ℕ). get_elem? qs z ≡ some v.post) (sym e.0) here, subst (λ (l : List Guard). Contains l g) same (subst (λ (z : Post HuntPart). Contains z.own.guards g) (sym e.1) has)))
      (λ a. (q, a.1, has)) (at_set qs id j (drawn_post b own) q to))
      t.tree.guarded

  -- the node that a guard is of counts as the guard says
  pub counts : (g : Guard) → Contains v.post.own.guards g → node t.nodes g.node ≡ g.counted
  counts g has = guard_counts hunt_nodes s.words qs t.nodes t.tree id v.post here g has

  -- no word is stored
  pub nothing_set : (g : Guard) → Contains v.post.own.guards g → IsSetAt (words_in s.words) (words_in s.words) g.node g.stored
  nothing_set g has = record { own = (t.tree.guarded.held id v.post g here has).stored; others = λ i ne. refl }
