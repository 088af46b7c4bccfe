-- The calls on nodes are allowed, under any rule that has the laws of nodes.
use Rattle.std.proofs.Common.{◌≡◌, ◌≢◌, ℕ, ◌<◌, ◌≤◌, List, [], ◌∷◌, ◌++◌, map, length, get_or, set, inl, refl, sym}
use Rattle.std.proofs.Common.{ap, ◌∙◌, subst, arith}
use Rattle.std.specs.Prelude.{Contains}
use mathlib.Core.Option.{none}
use Rattle.atomic_table.specs.Table.{Me, step, keeps, Allows}
use Rattle.atomic_table.proofs.Lists.{at_map}
use Rattle.pq_model.specs.History.{left}
use Rattle.pq_seats.specs.declared.views.Limits.{Limits}
use Rattle.pq_seats.specs.declared.views.Post.{Post}
use Rattle.pq_seats.specs.declared.views.View.{View}
use Rattle.pq_seats.specs.Views.{post_of, with_post}
use Rattle.pq_seats.specs.Posts.{with_lock, without_lock}
use Rattle.pq_seats.specs.Rules.{Table, Rule, Lawful, TiedAfter, Holds, Stands}
use Rattle.pq_seats.specs.Allowed.{MayTake, MayFree}
use Rattle.pq_seats.specs.Steps.{Took}
use Rattle.pq_seats.specs.Laws.{stepped_to}
use Rattle.pq_seats.proofs.Lists.{in_first}
use Rattle.pq_seats.proofs.Keeps.{untouched}
use Rattle.pq_seats.proofs.Owning.{own_stays}
use Rattle.pq_seats.proofs.Lengths.{few_marks}
use Rattle.pq_nodes.specs.declared.guards.Guard.{Guard}
use Rattle.pq_nodes.specs.Layout.{lock_of, word_of}
use Rattle.pq_nodes.specs.Views.{guard, exchanged, exchanged_third}
use Rattle.pq_nodes.specs.Parts.{NodePart, guarding, without_node, with_word, HasGuard, IsFreeable}
use Rattle.pq_nodes.specs.Facts.{words_in, NodeFacts}
use Rattle.pq_nodes.specs.NodeLaws.{NodeLaws}
use Rattle.pq_nodes.specs.Passes.{TookNode}
use Rattle.pq_nodes.specs.Raising.{MayRaise, CanRaiseSecond, CanRaiseThird}
use Rattle.pq_nodes.specs.Steps as steps
use Rattle.pq_nodes.proofs.Keeping.{take_keeps, free_keeps, store_keeps, guard_within}

module _ {O N : Type 0} (R : Rule O) (P : NodePart O N) (laws : NodeLaws R P) (k : Limits) where
  -- the words of nodes are among those of the table
  pub wide : (s : Table O) → Holds R k s → word_of (P.count k) < length s.words
  wide s h = let a = laws.within k in let b = h.width in omega arith

  -- a guarded node is one of the nodes
  pub guard_at : (s : Table O) (h : Holds R k s) (id : ℕ) (v : View O) → Stands R s id v → (i : ℕ) → (g : Guard N)
      → Contains (P.guards v.post.own) g → g.node ≡ i → i ≤ P.count k
  guard_at s h id v at i g has is = let lt = guard_within P s.words (map post_of s.views) (laws.nodes k s h) (laws.facts k s h)
      id v.post (at_map post_of s.views id v at) g has in let long = laws.long k s h in omega arith

  -- any seat with a number may take a node's lock
  pub may_take_node : (id : ℕ) (v : View O) (i : ℕ) → 0 < v.post.number → 1 ≤ i → i ≤ P.count k → MayTake R k id v (lock_of i)
  may_take_node id v i positive low high w alike s h at zero_word =
      let nodes : List N = laws.nodes k s h in let there = at_map post_of s.views id w at in
      let word : ℕ = words_in s.words i in let counted : N = get_or nodes i P.empty in
      let o : O = w.post.own in let g : Guard N = guard i word counted in
      let own : O = P.with_guards o (P.guards o ++ g ∷ []) in
      let number : w.post.number ≡ v.post.number = ap (λ (z : Post O). z.number) alike.post in
      let long = laws.long k s h in let room = wide s h in
      let means : P.means counted word = (laws.facts k s h).guarded.free i (omega arith) zero_word in (
        own,
        laws.takes_so w.limits o i own (word, counted, means, refl),
        laws.takes k s h id w i at (omega arith) low high zero_word
            (take_keeps P s.words (map post_of s.views) nodes (laws.facts k s h) id w.post there laws.reads i w.post.number
            (omega arith) (omega arith) zero_word (omega arith)),
      )

  -- and may free it, where the node counts as its word says and the queue allows it
  pub may_free_node : (id : ℕ) (v : View O) (i : ℕ) → IsFreeable P v i → MayFree R k id v (lock_of i)
  may_free_node id v i r s h at =
      let nodes : List N = laws.nodes k s h in let there = at_map post_of s.views id v at in let g : Guard N = r.guard in
      let high = guard_at s h id v at i g r.has r.is in let room = wide s h in let same = r.is in
      let freed = free_keeps P s.words (map post_of s.views) nodes (laws.facts k s h) id v.post there laws.reads g r.has r.means (omega arith) in
      subst (λ (z : O). TiedAfter R k s (lock_of i) 0 id (without_lock v.post (lock_of i) z) (left h.history))
      (sym (laws.freed v.limits v.post.own i))
      (laws.frees k s h id v i at r (subst (λ (z : ℕ). NodeFacts P (set s.words (lock_of z) 0)
      (set (map post_of s.views) id (without_node P v.post z)) nodes) r.is freed))

  -- what the taking of a node's lock tells
  pub took_node : (v w : View O) (i lock : ℕ) → lock ≡ lock_of i → Took R v w lock → TookNode P v w i
  took_node v w i lock is took =
      let r = laws.taken v.limits v.post.own i took.own (subst (λ (z : ℕ). R.taken v.limits v.post.own z took.own) is took.taken) in (
        r.0,
        r.1,
        r.2,
        record {
          post = took.post ∙ (λ j. with_lock v.post (is j) (r.3 j));
          lanes = took.lanes;
          front = took.front;
        },
      )

  -- a load of a node's word
  pub may_look : (slots id : ℕ) (me : Me (Unit {0}) (View O)) (i : ℕ) → me.1 ≡ []
      → Allows (Holds R k) slots id me (word_of i) (λ n. n) (steps.sees_word P (step slots (word_of i) 0 0 none) me)
  may_look slots id me i empty s h sized at small = (
    me.0,
    keeps,
    tt,
    untouched R k s h id me.0 (word_of i) at,
    (
      refl,
      (λ g has is. ap (λ (z : ℕ). get_or s.words z 0) (sym is)
          ∙ ((laws.facts k s h).guarded.held id me.0.post g (at_map post_of s.views id me.0 at) has).stored),
      laws.shown k s h id me.0 at,
    ),
  )

  -- a store of a node's word
  pub may_store : Lawful R → (slots id : ℕ) (me : Me (Unit {0}) (View O)) (i x : ℕ) → me.0.post.number ≢ 0
      → HasGuard P me.0 i → P.may_store me.0.post i x
      → Allows (Holds R k) slots id me (word_of i) (λ _. x) (λ _. steps.stores_word P (step slots (word_of i) x 0 none) me x)
  may_store lawful slots id me i x seated r allowed s h sized at small =
      let v = me.0 in let p : Post O = with_word P v.post i x in let nodes : List N = laws.nodes k s h in
      let there = at_map post_of s.views id v at in let g : Guard N = r.guard in
      let high = guard_at s h id v at i g r.has r.is in let room = wide s h in let same = r.is in
      let stored = store_keeps P s.words (map post_of s.views) nodes (laws.facts k s h) id v.post there laws.reads g x r.has (omega arith) in (
        with_post v p,
        keeps,
        tt,
        own_stays R k lawful s h id v p at seated (record { number = refl; locks = refl; owed = refl; flight = inl refl })
            (word_of i) x (omega arith) (laws.words k i high)
            (laws.stores k s h id v i x at r allowed (subst (λ (z : ℕ). NodeFacts P (set s.words (word_of z) x)
            (set (map post_of s.views) id (with_word P v.post z x)) nodes) r.is stored)),
        (refl, let front = (h.each id v at).front in let most = few_marks R k s h in omega arith),
      )

  -- a word goes up from a child into the hole
  keeps_raised : Lawful R → (s : Table O) (h : Holds R k s) (id : ℕ) (v : View O) (at : Stands R s id v) (g c : Guard N)
      (gs : List (Guard N)) (word : ℕ) → v.post.number ≢ 0 → Contains (P.guards v.post.own) g → word ≡ c.stored
      → MayRaise R P k id v g c gs → Holds R k (stepped_to s (word_of g.node) word id (with_post v (guarding P v.post gs)))
  keeps_raised lawful s h id v at g c gs word seated has is allowed =
      own_stays R k lawful s h id v (guarding P v.post gs) at seated
      (record { number = refl; locks = refl; owed = refl; flight = inl refl }) (word_of g.node) word (omega arith)
      (laws.words k g.node (guard_at s h id v at g.node g has refl))
      (subst (λ (z : ℕ). TiedAfter R k s (word_of g.node) z id (guarding P v.post gs) (left h.history)) (sym is) (allowed s h at))

  pub may_raise_second : Lawful R → (slots id : ℕ) (me : Me (Unit {0}) (View O)) (hole word : ℕ) → me.0.post.number ≢ 0
      → CanRaiseSecond R P k id me.0 hole word → Allows (Holds R k) slots id me (word_of hole) (λ _. word)
      (λ _. steps.raises_second P (step slots (word_of hole) word 0 none) me word)
  may_raise_second lawful slots id me hole word seated r = subst (λ (z : ℕ). Allows (Holds R k) slots id me (word_of z)
      (λ _. word) (λ _. steps.raises_second P (step slots (word_of z) word 0 none) me word)) r.is
      (λ s h sized at small. (
        with_post me.0 (guarding P me.0.post (exchanged (P.guards me.0.post.own))),
        keeps,
        tt,
        keeps_raised lawful s h id me.0 at r.first r.child (exchanged (P.guards me.0.post.own)) word seated
            (subst (λ (z : List (Guard N)). Contains z r.first) (sym r.guards) (in_first r.first (r.child ∷ r.others)))
            r.stored r.allowed,
        refl,
      ))

  pub may_raise_third : Lawful R → (slots id : ℕ) (me : Me (Unit {0}) (View O)) (hole word : ℕ) → me.0.post.number ≢ 0
      → CanRaiseThird R P k id me.0 hole word → Allows (Holds R k) slots id me (word_of hole) (λ _. word)
      (λ _. steps.raises_third P (step slots (word_of hole) word 0 none) me word)
  may_raise_third lawful slots id me hole word seated r = subst (λ (z : ℕ). Allows (Holds R k) slots id me (word_of z)
      (λ _. word) (λ _. steps.raises_third P (step slots (word_of z) word 0 none) me word)) r.is
      (λ s h sized at small. (
        with_post me.0 (guarding P me.0.post (exchanged_third (P.guards me.0.post.own))),
        keeps,
        tt,
        keeps_raised lawful s h id me.0 at r.first r.child (exchanged_third (P.guards me.0.post.own)) word seated
            (subst (λ (z : List (Guard N)). Contains z r.first) (sym r.guards)
            (in_first r.first (r.second ∷ r.child ∷ r.others))) r.stored r.allowed,
        refl,
      ))
