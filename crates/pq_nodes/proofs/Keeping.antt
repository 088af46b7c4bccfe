-- What a step of one seat keeps of the facts of the nodes.
use Rattle.std.proofs.Common.{◌≡◌, ◌≢◌, ◌⊎◌, ℕ, ◌<◌, List, [], ◌∷◌, ◌++◌, length, get_or, set, inl, inr, ⊎_elim, refl, sym}
use Rattle.std.proofs.Common.{ap, ◌∙◌, subst, arith}
use Rattle.std.specs.Prelude.{Contains}
use Rattle.std.proofs.lemmas.List.{set-get_or}
use Rattle.std.proofs.lemmas.List.Elements.{Contains-append_cases, Contains-append_left, Contains-append_right}
use mathlib.Core.Option.{some, some-injective}
use lib.ListN.{get_elem?}
use Rattle.atomic_table.proofs.Lists.{at_set, at_snoc}
use Rattle.pq_seats.specs.declared.views.Post.{Post}
use Rattle.pq_seats.proofs.Lists.{in_first, in_later, in_cases, less_has, has_less, not_in}
use Rattle.pq_nodes.specs.declared.guards.Guard.{Guard}
use Rattle.pq_nodes.specs.Guards.{Kind, IsGuarded}
use Rattle.pq_nodes.specs.Layout.{lock_of, word_of}
use Rattle.pq_nodes.specs.Views.{guard, nodes_of, without_guard, restored, exchanged, exchanged_third, HaveNodesApart}
use Rattle.pq_nodes.specs.Parts.{NodePart, kind_of, guarding, with_node, without_node, with_word}
use Rattle.pq_nodes.specs.Facts.{locks_in, words_in, NamesNodes, NodeFacts}
use Rattle.pq_nodes.proofs.Guarded.{lock_taken, guard_written, guards_written, lock_freed, counted_is}
use Rattle.pq_nodes.proofs.Tables.{lock_set, words_stay, word_set, locks_stay}
use Rattle.pq_nodes.proofs.GuardLists.{in_same, apart_same, nodes_restored, restored_cases, first_cases, second_cases}
use Rattle.pq_nodes.proofs.GuardLists.{third_cases, without_guard_has, has_without_guard, apart_snoc, apart_without}

-- the nodes' locks and words are as they were, and each guard was there
pub guarded_on : {V G N : Type 0} (k : Kind V G N) (locks locks' words words' : ℕ → ℕ) (views views' : List V)
    (t : List N) → ((i : ℕ) → locks' i ≡ locks i) → ((i : ℕ) → words' i ≡ words i)
    → ((j : ℕ) (q : V) (g : G) → get_elem? views' j ≡ some q → Contains (k.guards q) g
    → (p : V) × (get_elem? views j ≡ some p) × Contains (k.guards p) g)
    → IsGuarded k locks words views t → IsGuarded k locks' words' views' t
guarded_on {V} {G} {N} k locks locks' words words' views views' t same_locks same_words was f = record {
  free = λ i lt zero. subst (λ (w : ℕ). k.means (get_or t i k.empty) w) (sym (same_words i))
      (f.free i lt (sym (same_locks i) ∙ zero));
  held = λ j q g at has. let o = was j q g at has in let old = f.held j o.0 g o.1 o.2 in record {
    within = old.within;
    locked = λ z. old.locked (sym (same_locks (k.place g)) ∙ z);
    stored = same_words (k.place g) ∙ old.stored;
    counted = old.counted;
  };
  view = λ a b q r g h to_q to_r has_g has_h e. let u = was a q g to_q has_g in let v = was b r h to_r has_h in
      f.view a b u.0 v.0 g h u.1 v.1 u.2 v.2 e;
  once = λ a q g h at has_g has_h e. let u = was a q g at has_g in let v = was a q h at has_h in
      let same : v.0 ≡ u.0 = some-injective v.0 u.0 (sym v.1 ∙ u.1) in
      f.once a u.0 g h u.1 u.2 (subst (λ (z : V). Contains (k.guards z) h) same v.2) e;
}

module _ {O N : Type 0} (P : NodePart O N) (words : List ℕ) (posts : List (Post O)) (nodes : List N)
    (f : NodeFacts P words posts nodes) (id : ℕ) (p : Post O) (here : get_elem? posts id ≡ some p) where
  abbrev kind : Kind (Post O) (Guard N) N
  kind = kind_of P

  abbrev mine : NamesNodes P p
  mine = f.names id p here

  -- a node is one of the list, and counts as its guard says
  pub guard_within : (g : Guard N) → Contains (P.guards p.own) g → g.node < length nodes
  guard_within g has = (f.guarded.held id p g here has).within

  pub guard_counts : (g : Guard N) → Contains (P.guards p.own) g → get_or nodes g.node P.empty ≡ g.counted
  guard_counts g has = counted_is kind (locks_in words) (words_in words) posts nodes id p g f.guarded here has

  pub step_keeps : (words' : List ℕ) (p' : Post O) (nodes' : List N)
      → IsGuarded kind (locks_in words') (words_in words') (set posts id p') nodes' → NamesNodes P p'
      → NodeFacts P words' (set posts id p') nodes'
  step_keeps words' p' nodes' guarded names = record {
    guarded = guarded;
    names = λ j q to. ⊎_elim (λ e. subst (λ (z : Post O). NamesNodes P z) e.1 names) (λ a. f.names j q a.1)
        (at_set posts id j p' q to);
  }

  -- the seat holds the locks that it held, and guards the same nodes
  pub same_names : (p' : Post O) → p'.locks ≡ p.locks → nodes_of (P.guards p'.own) ≡ nodes_of (P.guards p.own)
      → NamesNodes P p'
  same_names p' locks same = record {
    holds = λ g has. let r = in_same (P.guards p.own) (P.guards p'.own) same g has in
        subst (λ (z : List ℕ). Contains z (lock_of g.node)) (sym locks)
        (subst (λ (z : ℕ). Contains p.locks (lock_of z)) r.2 (mine.holds r.0 r.1));
    named = λ j has. let old = mine.named j (subst (λ (z : List ℕ). Contains z (lock_of j)) locks has) in
        let r = in_same (P.guards p'.own) (P.guards p.own) (sym same) old.0 old.1 in (r.0, r.1, r.2 ∙ old.2);
    apart = apart_same (P.guards p.own) (P.guards p'.own) same mine.apart;
  }

  -- the seat has the guards that it had, and the same locks of nodes; no word of a node changes
  pub frame_keeps : (words' : List ℕ) (p' : Post O) → ((i : ℕ) → locks_in words' i ≡ locks_in words i)
      → ((i : ℕ) → words_in words' i ≡ words_in words i) → P.guards p'.own ≡ P.guards p.own
      → ((i : ℕ) → Contains p.locks (lock_of i) → Contains p'.locks (lock_of i))
      → ((i : ℕ) → Contains p'.locks (lock_of i) → Contains p.locks (lock_of i))
      → NodeFacts P words' (set posts id p') nodes
  frame_keeps words' p' same_locks same_words guards more fewer = step_keeps words' p' nodes
      (guarded_on kind (locks_in words) (locks_in words') (words_in words) (words_in words') posts (set posts id p') nodes
      same_locks same_words (λ j q g to has. ⊎_elim
      (λ e. (
        p,
        subst (λ (z : ℕ). get_elem? posts z ≡ some p) (sym e.0) here,
        subst (λ (z : List (Guard N)). Contains z g)
            guards (subst (λ (z : Post O). Contains (P.guards z.own) g) (sym e.1) has),
      ))
      (λ a. (q, a.1, has)) (at_set posts id j p' q to)) f.guarded)
      (record {
        holds = λ g has. more g.node (mine.holds g (subst (λ (z : List (Guard N)). Contains z g) guards has));
        named = λ i has. let old = mine.named i (fewer i has) in
            (old.0, subst (λ (z : List (Guard N)). Contains z old.0) (sym guards) old.1, old.2);
        apart = subst HaveNodesApart (sym guards) mine.apart;
      })

  -- the first guard's node counts as another, by a store to its word
  pub refill_keeps : (g : Guard N) (gs : List (Guard N)) (x : ℕ) (counted : N) (p' : Post O)
      → P.guards p.own ≡ g ∷ gs → P.guards p'.own ≡ guard g.node x counted ∷ gs → p'.locks ≡ p.locks
      → word_of g.node < length words
      → NodeFacts P (set words (word_of g.node) x) (set posts id p') (set nodes g.node counted)
  refill_keeps g gs x counted p' guards is locks within =
      let i : ℕ = g.node in let ws : List ℕ = set words (word_of i) x in let g' : Guard N = guard i x counted in
      let has_g : Contains (P.guards p.own) g = subst (λ (z : List (Guard N)). Contains z g) (sym guards) (in_first g gs) in
      let apart : HaveNodesApart (g ∷ gs) = subst HaveNodesApart guards mine.apart in
      step_keeps ws p' (set nodes i counted)
      (subst (λ (z : ℕ → ℕ). IsGuarded kind z (words_in ws) (set posts id p') (set nodes i counted)) (sym (locks_stay words i x))
      (guard_written kind (locks_in words) (words_in words) (words_in ws) posts nodes id p p' g g' f.guarded here has_g refl
      (word_set words i x within)
      (λ z at_z. ⊎_elim (λ e. inl e) (λ r. inr (r.0, subst (λ (l : List (Guard N)). Contains l z) (sym guards) r.1))
      (first_cases g g' gs refl apart z (subst (λ (l : List (Guard N)). Contains l z) is at_z)))))
      (same_names p' locks (ap nodes_of is ∙ sym (ap nodes_of guards)))

  -- That the guards are what was put there
  module _ (reads : (o : O) (gs : List (Guard N)) → P.guards (P.with_guards o gs) ≡ gs) where
    -- a lock is taken
    pub take_keeps : (i x : ℕ) → i < length nodes → lock_of i < length words → locks_in words i ≡ 0 → x ≢ 0
        → NodeFacts P (set words (lock_of i) x)
        (set posts id (with_node P p (guard i (words_in words i) (get_or nodes i P.empty)))) nodes
    take_keeps i x in_nodes within free nonzero =
        let g : Guard N = guard i (words_in words i) (get_or nodes i P.empty) in let gs : List (Guard N) = P.guards p.own in
        let p' : Post O = with_node P p g in let ws : List ℕ = set words (lock_of i) x in
        let is : P.guards p'.own ≡ gs ++ g ∷ [] = reads p.own (gs ++ g ∷ []) in
        let more : (h : Guard N) → Contains (P.guards p'.own) h → (g ≡ h) ⊎ Contains gs h =
        (λ h has. ⊎_elim (λ a. inr a) (λ b. ⊎_elim (λ e. inl e) (λ n. absurd (not_in h n)) (in_cases g h [] b))
        (Contains-append_cases gs (g ∷ []) h (subst (λ (z : List (Guard N)). Contains z h) is has))) in
        let put : (h : Guard N) → Contains (gs ++ g ∷ []) h → Contains (P.guards p'.own) h =
        (λ h has. subst (λ (z : List (Guard N)). Contains z h) (sym is) has) in
        step_keeps ws p' nodes
        (subst (λ (z : ℕ → ℕ). IsGuarded kind (locks_in ws) z (set posts id p') nodes) (sym (words_stay words i x))
        (lock_taken kind (locks_in words) (locks_in ws) (words_in words) posts nodes id p p' g x f.guarded here in_nodes free
        nonzero (lock_set words i x within) refl refl more))
        (record {
          holds = λ h has. ⊎_elim (λ e. (0, omega arith, ap (λ (z : Guard N). lock_of z.node) e))
              (λ old. in_later (lock_of i) (lock_of h.node) p.locks (mine.holds h old)) (more h has);
          named = λ j has. ⊎_elim
              (λ e. (g, put g (Contains-append_right gs (g ∷ []) g (in_first g [])), omega arith))
              (λ old. let r = mine.named j old in (r.0, put r.0 (Contains-append_left gs (g ∷ []) r.0 r.1), r.2))
              (in_cases (lock_of i) (lock_of j) p.locks has);
          apart = subst HaveNodesApart (sym is) (apart_snoc g gs
              (λ h has e. (f.guarded.held id p h here has).locked (ap (locks_in words) e ∙ free)) mine.apart);
        })

    -- a lock is freed, where the node counts as its word says
    pub free_keeps : (g : Guard N) → Contains (P.guards p.own) g → P.means g.counted g.stored
        → lock_of g.node < length words
        → NodeFacts P (set words (lock_of g.node) 0) (set posts id (without_node P p g.node)) nodes
    free_keeps g has means within =
        let i : ℕ = g.node in let gs : List (Guard N) = P.guards p.own in let p' : Post O = without_node P p i in
        let ws : List ℕ = set words (lock_of i) 0 in let rest : List (Guard N) = without_guard (lock_of i) gs in
        let is : P.guards p'.own ≡ rest = reads p.own rest in
        let was : (h : Guard N) → Contains (P.guards p'.own) h → (lock_of h.node ≢ lock_of i) × Contains gs h =
        (λ h left. without_guard_has (lock_of i) gs h (subst (λ (z : List (Guard N)). Contains z h) is left)) in
        step_keeps ws p' nodes
        (subst (λ (z : ℕ → ℕ). IsGuarded kind (locks_in ws) z (set posts id p') nodes) (sym (words_stay words i 0))
        (lock_freed kind (locks_in words) (locks_in ws) (words_in words) posts nodes id p p' g f.guarded here has means
        (lock_set words i 0 within) (λ h left. let r = was h left in ((λ e. r.0 (ap lock_of e)), r.1))))
        (record {
          holds = λ h left. let r = was h left in has_less (lock_of i) p.locks (lock_of h.node) (mine.holds h r.1) r.0;
          named = λ j left. let l = less_has (lock_of i) p.locks (lock_of j) left in let r = mine.named j l.0 in (
            r.0,
            subst (λ (z : List (Guard N)). Contains z r.0) (sym is)
                (has_without_guard (lock_of i) gs r.0 r.1 (λ e. l.1 (ap lock_of (sym r.2) ∙ e))),
            r.2,
          );
          apart = subst HaveNodesApart (sym is) (apart_without (lock_of i) gs mine.apart);
        })

    -- a word is stored, and its node counts as it did
    pub store_keeps : (g : Guard N) (x : ℕ) → Contains (P.guards p.own) g → word_of g.node < length words
        → NodeFacts P (set words (word_of g.node) x) (set posts id (with_word P p g.node x)) nodes
    store_keeps g x has within =
        let i : ℕ = g.node in let gs : List (Guard N) = P.guards p.own in
        let after : List (Guard N) = restored (word_of i) x gs in let p' : Post O = with_word P p i x in
        let ws : List ℕ = set words (word_of i) x in let g' : Guard N = guard i x g.counted in
        let is : P.guards p'.own ≡ after = reads p.own after in
        let unchanged : set nodes i g.counted ≡ nodes = ap (λ (z : N). set nodes i z) (sym (guard_counts g has))
        ∙ set-get_or nodes i P.empty in
        step_keeps ws p' nodes
        (subst (λ (z : ℕ → ℕ). IsGuarded kind z (words_in ws) (set posts id p') nodes) (sym (locks_stay words i x))
        (subst (λ (z : List N). IsGuarded kind (locks_in words) (words_in ws) (set posts id p') z) unchanged
        (guard_written kind (locks_in words) (words_in words) (words_in ws) posts nodes id p p' g g' f.guarded here has refl
        (word_set words i x within)
        (λ z at_z. restored_cases i x gs g mine.apart has refl z (subst (λ (l : List (Guard N)). Contains l z) is at_z)))))
        (same_names p' refl (ap nodes_of is ∙ nodes_restored (word_of i) x gs))

    -- The word of the node guarded by h is stored in that of the node guarded by g, and the two nodes count in each
    -- other's place. `between` is the list with the first guard changed alone.
    exchange_keeps : (g h : Guard N) (between behind : List (Guard N)) (p' : Post O) → Contains (P.guards p.own) g
        → Contains (P.guards p.own) h → g.node ≢ h.node → P.guards p'.own ≡ behind → p'.locks ≡ p.locks
        → nodes_of behind ≡ nodes_of (P.guards p.own) → word_of g.node < length words
        → ((l : Guard N) → Contains between l → (guard g.node h.stored h.counted ≡ l) ⊎ ((l.node ≢ g.node) × Contains (P.guards p.own) l))
        → Contains between h
        → ((l : Guard N) → Contains behind l → (guard h.node h.stored g.counted ≡ l) ⊎ ((l.node ≢ h.node) × Contains between l))
        → NodeFacts P (set words (word_of g.node) h.stored) (set posts id p') (set (set nodes g.node h.counted) h.node g.counted)
    exchange_keeps g h between behind p' has_g has_h differ is locks same within kept has_between kept_h =
        let i : ℕ = g.node in let x : ℕ = h.stored in let ws : List ℕ = set words (word_of i) x in
        let g' : Guard N = guard i x h.counted in let h' : Guard N = guard h.node x g.counted in
        let set_is = word_set words i x within in let p1 : Post O = guarding P p between in
        let is_between : P.guards p1.own ≡ between = reads p.own between in
        let from : (l : Guard N) → Contains (P.guards p1.own) l → Contains between l =
        (λ l has. subst (λ (z : List (Guard N)). Contains z l) is_between has) in
        let into : (l : Guard N) → Contains between l → Contains (P.guards p1.own) l =
        (λ l has. subst (λ (z : List (Guard N)). Contains z l) (sym is_between) has) in
        let stored : words_in words h.node ≡ h.stored = (f.guarded.held id p h here has_h).stored in
        let nodes' : List N = set (set nodes i h.counted) h.node g.counted in
        step_keeps ws p' nodes'
        (subst (λ (z : ℕ → ℕ). IsGuarded kind z (words_in ws) (set posts id p') nodes') (sym (locks_stay words i x))
        (guards_written kind (locks_in words) (words_in words) (words_in ws) posts nodes id p p1 p' g g' h h' f.guarded here
        has_g refl set_is (λ l has. kept l (from l has)) (into h has_between) refl
        (sym (set_is.others h.node (λ e. differ (sym e)) ∙ stored))
        (λ l has. ⊎_elim (λ e. inl e) (λ r. inr (r.0, into l r.1)) (kept_h l (subst (λ (z : List (Guard N)). Contains z l) is has)))))
        (same_names p' locks (ap nodes_of is ∙ same))

    -- the second guard's word goes into the first one's
    pub exchange_second : (g h : Guard N) (gs : List (Guard N)) (p' : Post O) → P.guards p.own ≡ g ∷ h ∷ gs
        → P.guards p'.own ≡ exchanged (P.guards p.own) → p'.locks ≡ p.locks → word_of g.node < length words
        → NodeFacts P (set words (word_of g.node) h.stored) (set posts id p') (set (set nodes g.node h.counted) h.node g.counted)
    exchange_second g h gs p' guards is locks within =
        let g' : Guard N = guard g.node h.stored h.counted in let h' : Guard N = guard h.node h.stored g.counted in
        let apart : HaveNodesApart (g ∷ h ∷ gs) = subst HaveNodesApart guards mine.apart in
        let old : (l : Guard N) → Contains (g ∷ h ∷ gs) l → Contains (P.guards p.own) l =
        (λ l has. subst (λ (z : List (Guard N)). Contains z l) (sym guards) has) in
        exchange_keeps g h (g' ∷ h ∷ gs) (g' ∷ h' ∷ gs) p' (old g (in_first g (h ∷ gs)))
        (old h (in_later g h (h ∷ gs) (in_first h gs))) (λ e. apart.0 h (in_first h gs) (sym e)) (is ∙ ap exchanged guards) locks
        (sym (ap nodes_of guards)) within
        (λ l has. ⊎_elim (λ e. inl e) (λ r. inr (r.0, old l r.1)) (first_cases g g' (h ∷ gs) refl apart l has))
        (in_later g' h (h ∷ gs) (in_first h gs))
        (λ l has. second_cases g' h h' gs refl (apart_same (g ∷ h ∷ gs) (g' ∷ h ∷ gs) refl apart) l has)

    -- the third guard's word goes into the first one's
    pub exchange_third : (g b h : Guard N) (gs : List (Guard N)) (p' : Post O) → P.guards p.own ≡ g ∷ b ∷ h ∷ gs
        → P.guards p'.own ≡ exchanged_third (P.guards p.own) → p'.locks ≡ p.locks → word_of g.node < length words
        → NodeFacts P (set words (word_of g.node) h.stored) (set posts id p') (set (set nodes g.node h.counted) h.node g.counted)
    exchange_third g b h gs p' guards is locks within =
        let g' : Guard N = guard g.node h.stored h.counted in let h' : Guard N = guard h.node h.stored g.counted in
        let apart : HaveNodesApart (g ∷ b ∷ h ∷ gs) = subst HaveNodesApart guards mine.apart in
        let old : (l : Guard N) → Contains (g ∷ b ∷ h ∷ gs) l → Contains (P.guards p.own) l =
        (λ l has. subst (λ (z : List (Guard N)). Contains z l) (sym guards) has) in
        exchange_keeps g h (g' ∷ b ∷ h ∷ gs) (g' ∷ b ∷ h' ∷ gs) p' (old g (in_first g (b ∷ h ∷ gs)))
        (old h (in_later g h (b ∷ h ∷ gs) (in_later b h (h ∷ gs) (in_first h gs))))
        (λ e. apart.0 h (in_later b h (h ∷ gs) (in_first h gs)) (sym e)) (is ∙ ap exchanged_third guards) locks
        (sym (ap nodes_of guards)) within
        (λ l has. ⊎_elim (λ e. inl e) (λ r. inr (r.0, old l r.1)) (first_cases g g' (b ∷ h ∷ gs) refl apart l has))
        (in_later g' h (b ∷ h ∷ gs) (in_later b h (h ∷ gs) (in_first h gs)))
        (λ l has. third_cases g' b h h' gs refl (apart_same (g ∷ b ∷ h ∷ gs) (g' ∷ b ∷ h ∷ gs) refl apart) l has)

-- a seat that holds nothing comes behind the others
pub come_keeps : {O N : Type 0} (P : NodePart O N) (words : List ℕ) (posts : List (Post O)) (nodes : List N) (p : Post O)
    → NodeFacts P words posts nodes → P.guards p.own ≡ [] → p.locks ≡ [] → NodeFacts P words (posts ++ p ∷ []) nodes
come_keeps {O} {N} P words posts nodes p f guards locks =
    let none : (g : Guard N) → Contains (P.guards p.own) g → ⊥ =
    (λ g has. not_in g (subst (λ (z : List (Guard N)). Contains z g) guards has)) in
    let unlocked : (i : ℕ) → Contains p.locks i → ⊥ =
    (λ i has. not_in i (subst (λ (z : List ℕ). Contains z i) locks has)) in
    let empty : NamesNodes P p = record {
      holds = λ g has. absurd (none g has);
      named = λ i has. absurd (unlocked (lock_of i) has);
      apart = subst HaveNodesApart (sym guards) tt;
    } in record {
      guarded = guarded_on (kind_of P) (locks_in words) (locks_in words) (words_in words) (words_in words) posts (posts ++ p ∷ [])
          nodes (λ i. refl) (λ i. refl) (λ j q g at has. ⊎_elim (λ a. (q, a, has))
          (λ e. absurd (none g (subst (λ (z : Post O). Contains (P.guards z.own) g) (sym e) has))) (at_snoc posts p q j at))
          f.guarded;
      names = λ j q at. ⊎_elim (λ a. f.names j q a) (λ e. subst (λ (z : Post O). NamesNodes P z) e empty) (at_snoc posts p q j at);
    }
