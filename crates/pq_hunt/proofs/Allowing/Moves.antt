-- The heap's own steps are allowed.
use Rattle.std.proofs.Common.{◌≡◌, ◌≢◌, Some, None, ℕ, ◌+◌, ◌-◌, ◌*◌, ◌/◌, ◌<◌, ◌≤◌, false, List, [], ◌∷◌, map, length, get_or, set, inl, inr, ⊎_elim, refl, sym, ap, ◌∙◌, subst, arith}
use Rattle.std.specs.Prelude.{Contains}
use Rattle.std.proofs.lemmas.List.{set-get_or}
use mathlib.Core.Option.{some, none}
use lib.ListN.{get_elem?}
use native.Mathlib.Decide.{ℕ_discrete}
use mathlib.Core.Logic.{dite}
use Rattle.atomic_table.specs.Table.{Me, step, keeps, Allows}
use Rattle.pq_words.specs.declared.entries.Entry.{Entry}
use Rattle.pq_words.specs.Entries.{raw_of}
use Rattle.pq_model.specs.History.{left}
use Rattle.pq_seats.specs.declared.views.Limits.{Limits}
use Rattle.pq_seats.specs.declared.views.Post.{Post}
use Rattle.pq_seats.specs.declared.views.View.{View}
use Rattle.pq_seats.specs.Views.{post_of, with_post, known_of}
use Rattle.pq_seats.specs.Rules.{Table, Holds}
use Rattle.pq_seats.specs.Allowed.{IsOwnChange}
use Rattle.pq_seats.proofs.Keeps.{untouched}
use Rattle.pq_seats.proofs.Owning.{own_stays}
use Rattle.pq_api.specs.Limits.{call_limit}
use Rattle.pq_hunt.specs.declared.nodes.Node.{Node}
use Rattle.pq_hunt.specs.declared.nodes.Node.TheVariants.{Empty, Available, Busy, Hole}
use Rattle.pq_hunt.specs.Nodes.{node}
use Rattle.pq_hunt.specs.Order.{HasWord, MayStandOver}
use Rattle.pq_hunt.specs.Words.{Means, node_with, node_of}
use Rattle.pq_hunt.specs.Batches.{entry_at}
use Rattle.pq_hunt.proofs.Heap.Meanings.{one_meaning}
use Rattle.pq_hunt.proofs.Heap.Events.{may_empty}
use Rattle.pq_words.specs.declared.heap_words.Tag.{Tag}
use Rattle.pq_words.specs.declared.heap_words.Tag.TheVariants as tags
use Rattle.pq_words.specs.declared.heap_words.HeapWord.{HeapWord}
use Rattle.pq_words.specs.HeapWords.{heap_number}
use Rattle.std.specs.Prelude.{Option}
use Rattle.pq_hunt.specs.Guards.{Guard}
use Rattle.pq_hunt.specs.declared.views.HuntPart.{HuntPart}
use Rattle.pq_nodes.specs.Layout.{word_of}
use Rattle.pq_hunt.specs.Layout.{heap_lock, size_word, is_lock}
use Rattle.pq_nodes.specs.Views.{exchanged, exchanged_third, refilled}
use Rattle.pq_hunt.specs.Ties.{HuntTied}
use Rattle.pq_hunt.specs.Rules.{hunt_rule}
use Rattle.pq_hunt.specs.Steps as steps
use Rattle.pq_hunt.specs.Sifting.{MayStand}
use Rattle.pq_hunt.specs.LawsHold.{hunt_laws}
use Rattle.pq_hunt.specs.LawsHold.Locks.{word_is_no_lock, size_is_no_lock}
use Rattle.pq_hunt.specs.LawsHold.Changes.{pat}
use Rattle.pq_hunt.proofs.Keeping.Stores as stores
use Rattle.pq_hunt.proofs.Keeping.Looks as looks
use Rattle.pq_hunt.specs.NodeParts.{hunt_nodes}
use Rattle.pq_nodes.specs.Parts.{guarding}
use Rattle.pq_nodes.specs.Raising.{MayRaise}

abbrev owner_at : Node → ℕ
owner_at Empty = 0
owner_at (Available e) = 0
owner_at (Busy o e) = o
owner_at (Hole e) = 0

same_flight : (o : Option Entry) (e f : Entry) → o ≡ Some e → o ≡ Some f → e ≡ f
same_flight o e f is also = let both : Some e ≡ Some f = sym is ∙ also in cc

-- the word of a Busy node is its number
busy_word : (n : ℕ) (e : Entry) (word : ℕ) → Means (Busy n e) word → word ≡ steps.busy_number n e
busy_word n e word means = by_word means.packed means.number means.node
  where
    by_tag : (tag : Tag) (o : ℕ) (f : Entry) → heap_number (record { tag = tag; owner = o; entry = f }) ≡ word → node_with tag o f ≡ Busy n e → word ≡ steps.busy_number n e
    by_tag tags.Empty o f number is = absurd (cc)
    by_tag tags.Available o f number is = absurd (cc)
    by_tag tags.Busy o f number is = sym number ∙ (λ j. steps.busy_number (owner_at (is j)) (entry_at (is j)))

    by_word : (w : HeapWord) → heap_number w ≡ word → node_of w ≡ Busy n e → word ≡ steps.busy_number n e
    by_word w number is = by_tag w.tag w.owner w.entry number is

module _ (k : Limits) where
  abbrev St : Type 0
  St = Table HuntPart

  -- a change of the own part alone
  own_change : (v : View HuntPart) (own : HuntPart) → IsOwnChange v (record v.post { own = own })
  own_change v own = record { number = refl; locks = refl; owed = refl; flight = inl refl }

  -- a step on a word of the heap
  keeps_rule : (s : St) (h : Holds hunt_rule k s) (id : ℕ) (v : View HuntPart) (p : Post HuntPart) (i x : ℕ) → get_elem? s.views id ≡ some v → v.post.number ≢ 0 → 16 < i → is_lock k.capacity i ≡ false
      → IsOwnChange v p → HuntTied k (set s.words i x) (set (map post_of s.views) id p) (left h.history)
      → Holds hunt_rule k record { words = set s.words i x; homes = s.homes; views = set s.views id (with_post v p) }
  keeps_rule s h id v p i x at seated far no_lock own tied = own_stays hunt_rule k hunt_laws s h id v p at seated own i x far no_lock tied

  -- a load that changes the view alone
  loads_rule : (s : St) (h : Holds hunt_rule k s) (id : ℕ) (v : View HuntPart) (p : Post HuntPart) (i : ℕ) → get_elem? s.views id ≡ some v → v.post.number ≢ 0 → 16 < i → is_lock k.capacity i ≡ false
      → IsOwnChange v p → HuntTied k s.words (set (map post_of s.views) id p) (left h.history)
      → Holds hunt_rule k record { words = set s.words i (get_or s.words i 0); homes = s.homes; views = set s.views id (with_post v p) }
  loads_rule s h id v p i at seated far no_lock own tied = keeps_rule s h id v p i (get_or s.words i 0) at seated far no_lock own
      (subst (λ (z : List ℕ). HuntTied k z (set (map post_of s.views) id p) (left h.history)) (sym (set-get_or s.words i 0)) tied)

  pub may_look_at_size : (slots id : ℕ) (me : Me (Unit {0}) (View HuntPart)) → me.1 ≡ [] → Contains me.0.post.locks heap_lock
      → Allows (Holds hunt_rule k) slots id me size_word (λ n. n) (steps.looks_at_size (step slots size_word 0 0 none) me)
  may_look_at_size slots id me empty locked s h sized at small =
      (me.0, keeps, tt, untouched hunt_rule k s h id me.0 size_word at, (refl, (h.tied.held id me.0.post (pat k s h id me.0 at) locked).1))

  pub may_store_size : (slots id : ℕ) (me : Me (Unit {0}) (View HuntPart)) (x : ℕ) → me.0.post.number ≢ 0 → Contains me.0.post.locks heap_lock
      → Allows (Holds hunt_rule k) slots id me size_word (λ _. x) (λ _. steps.stores_size (step slots size_word x 0 none) me x)
  may_store_size slots id me x seated locked s h sized at small = let v = me.0 in (
    with_post v (steps.sizing v.post x),
    keeps,
    tt,
    keeps_rule s h id v (steps.sizing v.post x) size_word x at seated (omega arith) (size_is_no_lock k.capacity) (own_change v _) (looks.stores_size k s h id v at x locked),
    refl,
  )

  pub may_leaf : (slots id : ℕ) (me : Me (Unit {0}) (View HuntPart)) (g : Guard) (gs : List Guard) (x : ℕ) (e : Entry) → me.0.post.own.guards ≡ g ∷ gs → Contains me.0.post.locks heap_lock → 0 < me.0.post.number
      → me.0.post.own.climbing ≡ 0 → me.0.post.flight ≡ None → length (known_of me.0).calls < call_limit - 1
      → g.node ≡ me.0.post.own.size_counted + 1 → g.node ≤ k.capacity → Means (Busy me.0.post.number e) x
      → Allows (Holds hunt_rule k) slots id me (word_of g.node) (λ _. x) (λ _. steps.leafs (step slots (word_of g.node) x 0 none) me x)
  may_leaf slots id me g gs x e guards locked positive idle quiet few next room means s h sized at small =
      let v = me.0 in let p : Post HuntPart = steps.leafed v.post x e in
      let same : p ≡ stores.leafed k s h id v at g x e = (λ j. record v.post {
        flight = Some e;
        own = record v.post.own { guards = refilled x (Busy v.post.number e) v.post.own.guards; size_counted = steps.first_node (guards j); place = steps.first_node (guards j); climbing = 1 };
      }) in (
        with_post v p,
        keeps,
        tt,
        keeps_rule s h id v p (word_of g.node) x at (λ z. omega arith) (omega arith) (word_is_no_lock k.capacity g.node)
            (record { number = refl; locks = refl; owed = refl; flight = inr (quiet, few) })
            (subst (λ (z : Post HuntPart). HuntTied k (set s.words (word_of g.node) x) (set (map post_of s.views) id z) (left h.history)) (sym same)
            (stores.leafs k s h id v at g gs x e guards locked positive idle next room)),
        λ f is. let one : Busy v.post.number e ≡ Busy v.post.number f = one_meaning (Busy v.post.number e) (Busy v.post.number f) x means is in
            (λ j. (with_post v (steps.leafed v.post x (entry_at (one j))), me.1)),
      )

  pub may_climb : (slots id : ℕ) (me : Me (Unit {0}) (View HuntPart)) (g f : Guard) (gs : List Guard) (x y : Entry) (word : ℕ) → me.0.post.own.guards ≡ g ∷ f ∷ gs → word ≡ f.stored → f.node / 2 ≡ g.node → g.counted ≡ Available y
      → f.counted ≡ Busy me.0.post.number x → raw_of x ≤ raw_of y → 0 < me.0.post.number → me.0.post.own.climbing ≡ 1 → me.0.post.own.place ≡ f.node
      → Allows (Holds hunt_rule k) slots id me (word_of g.node) (λ _. word) (λ _. steps.climbs (step slots (word_of g.node) word 0 none) me word)
  may_climb slots id me g f gs x y word guards is_word child above below under positive climbing place s h sized at small =
      let v = me.0 in let p : Post HuntPart = steps.climbed v.post in
      let same : p ≡ stores.climbed k s h id v at g f gs guards = (λ j. record v.post { own = record v.post.own { guards = exchanged v.post.own.guards; place = steps.first_node (guards j) } }) in (
        with_post v p,
        keeps,
        tt,
        keeps_rule s h id v p (word_of g.node) word at (λ z. omega arith) (omega arith) (word_is_no_lock k.capacity g.node) (own_change v _)
            (subst (λ (z : Post HuntPart). HuntTied k (set s.words (word_of g.node) word) (set (map post_of s.views) id z) (left h.history)) (sym same)
            (subst (λ (z : ℕ). HuntTied k (set s.words (word_of g.node) z) (set (map post_of s.views) id (stores.climbed k s h id v at g f gs guards)) (left h.history)) (sym is_word)
            (stores.climbs k s h id v at g f gs guards x y child above below under positive climbing place))),
        refl,
      )

  -- what stands at a child of the hole
  stands : (s : St) (h : Holds hunt_rule k s) (id : ℕ) (v : View HuntPart) (at : get_elem? s.views id ≡ some v) (i : ℕ) (e : Entry) → MayStand k.capacity v.post.own i e → MayStandOver e (node h.tied.nodes i)
  stands s h id v at i e may = ⊎_elim
      (λ far. may_empty h.tied.nodes e i (let t = h.tied in let within = t.facts.shape.within in let long = t.facts.long in t.facts.shape.clear i (omega arith)))
      (λ g. let counted = (h.tied.tree.guarded.held id v.post g.0 (pat k s h id v at) g.1).counted in
      subst (λ (z : Node). MayStandOver e z) (sym (ap (node h.tied.nodes) (sym g.2) ∙ counted)) g.3)
      may

  -- the entry in hand is not below that of a child, whose entry may stand over the other child: the child's word may go up
  pub may_raise_second : (id : ℕ) (v : View HuntPart) (g f : Guard) (gs : List Guard) (d : ℕ) (x e : Entry) → v.post.own.guards ≡ g ∷ f ∷ gs
      → g.counted ≡ Hole x → f.node / 2 ≡ g.node → f.node + d ≡ 4 * g.node + 1 → HasWord f.counted e → raw_of e ≤ raw_of x → MayStand k.capacity v.post.own d e
      → MayRaise hunt_rule hunt_nodes k id v g f (exchanged v.post.own.guards)
  may_raise_second id v g f gs d x e guards hole child pair has_word under may s h at =
      stores.sifts k s h id v at g f gs guards d x e hole child pair has_word under (stands s h id v at d e may)

  pub may_raise_third : (id : ℕ) (v : View HuntPart) (g b f : Guard) (gs : List Guard) (d : ℕ) (x e : Entry) → v.post.own.guards ≡ g ∷ b ∷ f ∷ gs
      → g.counted ≡ Hole x → f.node / 2 ≡ g.node → f.node + d ≡ 4 * g.node + 1 → HasWord f.counted e → raw_of e ≤ raw_of x → MayStand k.capacity v.post.own d e
      → MayRaise hunt_rule hunt_nodes k id v g f (exchanged_third v.post.own.guards)
  may_raise_third id v g b f gs d x e guards hole child pair has_word under may s h at =
      stores.sifts_third k s h id v at g b f gs guards d x e hole child pair has_word under (stands s h id v at d e may)

  pub may_fill : (slots id : ℕ) (me : Me (Unit {0}) (View HuntPart)) (g : Guard) (gs : List Guard) (x : Entry) (word : ℕ) → me.0.post.own.guards ≡ g ∷ gs → me.0.post.number ≢ 0
      → g.counted ≡ Hole x → MayStand k.capacity me.0.post.own (2 * g.node) x → MayStand k.capacity me.0.post.own (2 * g.node + 1) x
      → Allows (Holds hunt_rule k) slots id me (word_of g.node) (λ _. word) (λ _. steps.fills (step slots (word_of g.node) word 0 none) me word)
  may_fill slots id me g gs x word guards seated hole left_may right_may s h sized at small =
      let v = me.0 in let p : Post HuntPart = guarding hunt_nodes v.post (refilled word (Available (steps.first_entry v.post.own.guards)) v.post.own.guards) in
      let entry : x ≡ steps.first_entry v.post.own.guards = ap entry_at (sym hole) ∙ ap steps.first_entry (sym guards) in (
        with_post v p,
        keeps,
        tt,
        keeps_rule s h id v p (word_of g.node) word at seated (omega arith) (word_is_no_lock k.capacity g.node) (own_change v _)
            (subst (λ (z : Entry). HuntTied k (set s.words (word_of g.node) word) (set (map post_of s.views) id (guarding hunt_nodes v.post (refilled word (Available z) v.post.own.guards))) (left h.history)) entry
            (stores.fills k s h id v at g gs word x guards hole (stands s h id v at (2 * g.node) x left_may) (stands s h id v at (2 * g.node + 1) x right_may))),
        refl,
      )

  -- a word that is not the seat's own Busy word says something else
  not_mine : (n found : ℕ) (e f : Entry) (counted : Node) → Means counted found → found ≢ steps.busy_number n e → f ≡ e → counted ≢ Busy n f
  not_mine n found e f counted means other same is = let m : Means (Busy n e) found = subst (λ (z : Node). Means z found) (is ∙ ap (Busy n) same) means in other (busy_word n e found m)

  -- the entry of the seat's own Busy node is that of its insert
  own_entry : (s : St) (h : Holds hunt_rule k s) (id : ℕ) (v : View HuntPart) (at : get_elem? s.views id ≡ some v) (g : Guard) (e f : Entry) → Contains v.post.own.guards g → v.post.own.climbing ≡ 1 → 0 < v.post.number
      → v.post.flight ≡ Some e → g.counted ≡ Busy v.post.number f → f ≡ e
  own_entry s h id v at g e f has climbing positive flies is =
      let t = h.tied in let here = pat k s h id v at in
      let counted = (t.tree.guarded.held id v.post g here has).counted in
      let told = (t.told id v.post here positive).flies climbing in
      t.facts.flown.entry g.node v.post.number f (counted ∙ is) ∙ (told.2 ∙ same_flight v.post.flight told.0 e told.1 flies)

  pub may_find : (slots id : ℕ) (me : Me (Unit {0}) (View HuntPart)) (g : Guard) (e : Entry) → Contains me.0.post.own.guards g → Means g.counted g.stored → me.0.post.own.place ≡ g.node → me.0.post.own.climbing ≡ 1 → 0 < me.0.post.number
      → me.0.post.flight ≡ Some e
      → Allows (Holds hunt_rule k) slots id me (word_of g.node) (λ n. n) (steps.finds (step slots (word_of g.node) 0 0 none) me)
  may_find slots id me g e has means place climbing positive flies s h sized at small =
      let v = me.0 in let n : ℕ = v.post.number in let t = h.tied in
      let stored = (t.tree.guarded.held id v.post g (pat k s h id v at) has).stored in
      let found : ℕ = get_or s.words (word_of g.node) 0 in
      dite (ℕ_discrete found (steps.busy_number n e))
      (λ mine. (
        v,
        keeps,
        tt,
        untouched hunt_rule k s h id v (word_of g.node) at,
        (
          λ g' has' is'. ap (λ (z : ℕ). get_or s.words z 0) (sym is') ∙ (t.tree.guarded.held id v.post g' (pat k s h id v at) has').stored,
          λ f flies_f. ((λ is. refl), λ other. absurd (other (mine ∙ ap (λ (z : Entry). steps.busy_number n z) (same_flight v.post.flight e f flies flies_f)))),
        ),
      ))
      (λ other. (
        with_post v (steps.looking v.post),
        keeps,
        tt,
        loads_rule s h id v (steps.looking v.post) (word_of g.node) at (λ z. omega arith) (omega arith) (word_is_no_lock k.capacity g.node) (own_change v _)
            (looks.looks_up k s h id v at g has place climbing positive (λ f is. not_mine n found e f g.counted (subst (Means g.counted) (sym stored) means) other
            (own_entry s h id v at g e f has climbing positive flies is) is)),
        (
          λ g' has' is'. ap (λ (z : ℕ). get_or s.words z 0) (sym is') ∙ (t.tree.guarded.held id v.post g' (pat k s h id v at) has').stored,
          λ f flies_f. ((λ is. absurd (other (is ∙ ap (λ (z : Entry). steps.busy_number n z) (sym (same_flight v.post.flight e f flies flies_f))))), λ q. refl),
        ),
      ))

  pub may_find_at_root : (slots id : ℕ) (me : Me (Unit {0}) (View HuntPart)) (g : Guard) (e : Entry) → Contains me.0.post.own.guards g → Means g.counted g.stored → g.node ≡ 1 → me.0.post.own.place ≡ 1 → me.0.post.own.climbing ≡ 1 → 0 < me.0.post.number
      → me.0.post.owed ≡ [] → me.0.post.flight ≡ Some e
      → Allows (Holds hunt_rule k) slots id me (word_of g.node) (λ n. n) (steps.finds_at_root (step slots (word_of g.node) 0 0 none) me)
  may_find_at_root slots id me g e has means root place climbing positive owed flies s h sized at small =
      let v = me.0 in let n : ℕ = v.post.number in let t = h.tied in
      let stored = (t.tree.guarded.held id v.post g (pat k s h id v at) has).stored in
      let found : ℕ = get_or s.words (word_of g.node) 0 in
      dite (ℕ_discrete found (steps.busy_number n e))
      (λ mine. (
        v,
        keeps,
        tt,
        untouched hunt_rule k s h id v (word_of g.node) at,
        (
          λ g' has' is'. ap (λ (z : ℕ). get_or s.words z 0) (sym is') ∙ (t.tree.guarded.held id v.post g' (pat k s h id v at) has').stored,
          λ f flies_f. ((λ is. refl), λ other. absurd (other (mine ∙ ap (λ (z : Entry). steps.busy_number n z) (same_flight v.post.flight e f flies flies_f)))),
        ),
      ))
      (λ other. (
        with_post v (steps.missing v.post),
        keeps,
        tt,
        loads_rule s h id v (steps.missing v.post) (word_of g.node) at (λ z. omega arith) (omega arith) (word_is_no_lock k.capacity g.node) (own_change v _)
            (looks.finds_gone k s h id v at g has root place climbing positive owed (λ f is. not_mine n found e f g.counted (subst (Means g.counted) (sym stored) means) other
            (own_entry s h id v at g e f has climbing positive flies is) is)),
        (
          λ g' has' is'. ap (λ (z : ℕ). get_or s.words z 0) (sym is') ∙ (t.tree.guarded.held id v.post g' (pat k s h id v at) has').stored,
          λ f flies_f. ((λ is. absurd (other (is ∙ ap (λ (z : Entry). steps.busy_number n z) (sym (same_flight v.post.flight e f flies flies_f))))), λ q. refl),
        ),
      ))
