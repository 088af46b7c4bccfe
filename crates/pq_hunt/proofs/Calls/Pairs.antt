-- The posts of a seat that holds the locks of a node and its parent.
use Rattle.std.proofs.Common.{◌≡◌, ◌≢◌, Some, None, ℕ, ◌/◌, ◌≤◌, Bool, true, false, cond, eqb, List, [], ◌∷◌, refl, sym, ap, ◌∙◌, subst, arith, eq-eqb, ne_eqb}
use Rattle.std.specs.Prelude.{Contains, Option}
use Rattle.pq_words.specs.declared.entries.Entry.{Entry}
use Rattle.pq_words.specs.Entries.{raw_of}
use Rattle.pq_seats.specs.declared.views.Limits.{Limits}
use Rattle.pq_seats.specs.declared.views.Post.{Post}
use Rattle.pq_seats.specs.declared.views.View.{View}
use Rattle.pq_seats.specs.Views.{with_post, empty_post}
use Rattle.pq_seats.specs.Posts.{less, placed_post}
use Rattle.pq_seats.specs.Allowed.{MayDraw}
use Rattle.pq_model.specs.declared.marks.Act.TheVariants.{Insert}
use Rattle.pq_hunt.specs.declared.nodes.Node.TheVariants.{Available, Busy}
use Rattle.pq_hunt.specs.Words.{Means}
use Rattle.pq_hunt.specs.Guards.{Guard}
use Rattle.pq_hunt.specs.declared.views.HuntPart.{HuntPart}
use Rattle.pq_nodes.specs.Layout.{lock_of, word_of}
use Rattle.pq_nodes.specs.Views.{guard, without_guard, restored}
use Rattle.pq_hunt.specs.Views.{idle}
use Rattle.pq_hunt.specs.Batches.{insertion, after_insert}
use Rattle.pq_hunt.specs.Rules.{hunt_rule}
use Rattle.pq_nodes.specs.Parts.{guarding}
use Rattle.pq_hunt.specs.Steps.{climbed}
use Rattle.pq_nodes.specs.Passes.{ComesTo, HoldsTwo}
use Rattle.pq_nodes.specs.Parts.{without_node, HasGuard}
use Rattle.pq_hunt.specs.Climbing.{CanClimb}
use Rattle.pq_hunt.specs.HeldPosts.{in_flight, guarding_flight, post_with}
use Rattle.pq_hunt.proofs.Allowing.MayDraw.{may_settle_below}
use Rattle.pq_hunt.specs.NodeParts.{hunt_nodes}

-- Two guards, of different nodes: both are freed, the second one first
module _ (n : ℕ) (flight : Option Entry) (place climbing : ℕ) (g f : Guard) (differ : g.node ≢ f.node) where
  abbrev pub two : Post HuntPart
  two = post_with n false flight [] (record idle { guards = g ∷ f ∷ []; place = place; climbing = climbing })

  abbrev pub none_left : Post HuntPart
  none_left = post_with n false flight [] (record idle { place = place; climbing = climbing })

  same_lock : (i : ℕ) → eqb (lock_of i) (lock_of i) ≡ true
  same_lock i = eq-eqb (lock_of i) (lock_of i) refl

  other_lock : eqb (lock_of g.node) (lock_of f.node) ≡ false
  other_lock = ne_eqb (lock_of g.node) (lock_of f.node) (λ e. differ (omega arith))

  locks_then : less (lock_of f.node) (lock_of f.node ∷ lock_of g.node ∷ []) ≡ lock_of g.node ∷ []
  locks_then = ap (λ (b : Bool). cond {A = List ℕ} b (less (lock_of f.node) (lock_of g.node ∷ [])) (lock_of f.node ∷ less (lock_of f.node) (lock_of g.node ∷ []))) (same_lock f.node)
      ∙ ap (λ (b : Bool). cond {A = List ℕ} b [] (lock_of g.node ∷ [])) other_lock

  guards_then : without_guard (lock_of f.node) (g ∷ f ∷ []) ≡ g ∷ []
  guards_then = ap (λ (b : Bool). cond {A = List Guard} b (without_guard (lock_of f.node) (f ∷ [])) (g ∷ without_guard (lock_of f.node) (f ∷ []))) other_lock
      ∙ ap (λ (b : Bool). g ∷ cond {A = List Guard} b [] (f ∷ [])) (same_lock f.node)

  pub two_freed : without_node hunt_nodes (without_node hunt_nodes two f.node) g.node ≡ none_left
  two_freed = λ j. record {
    number = n;
    locks = (ap (λ (l : List ℕ). less (lock_of g.node) l) locks_then ∙ ap (λ (b : Bool). cond {A = List ℕ} b [] (lock_of g.node ∷ [])) (same_lock g.node)) j;
    flight = flight;
    owed = [];
    own = record {
      guards = (ap (λ (l : List Guard). without_guard (lock_of g.node) l) guards_then ∙ ap (λ (b : Bool). cond {A = List Guard} b [] (g ∷ [])) (same_lock g.node)) j;
      size_stored = 0;
      size_counted = 0;
      place = place;
      climbing = climbing;
      lettered = false;
    };
  }

  pub holds_two : (v : View HuntPart) → v.post ≡ two → Means g.counted g.stored → Means f.counted f.stored → HoldsTwo hunt_nodes v g.node f.node
  holds_two v q g_means f_means = record {
    differ = differ;
    first_held = subst (λ (p : Post HuntPart). Contains p.locks (lock_of g.node)) (sym q) (1, omega arith, refl);
    second_held = subst (λ (p : Post HuntPart). Contains p.locks (lock_of f.node)) (sym q) (0, omega arith, refl);
    first_freeable = record {
      guard = g;
      has = subst (λ (p : Post HuntPart). Contains p.own.guards g) (sym q) (0, omega arith, refl);
      is = refl;
      means = g_means;
      allowed = λ z. ap (λ (p : Post HuntPart). p.owed) q;
    };
    second_freeable = record {
      guard = f;
      has = subst (λ (p : Post HuntPart). Contains p.own.guards f) (sym q) (1, omega arith, refl);
      is = refl;
      means = f_means;
      allowed = λ z. ap (λ (p : Post HuntPart). p.owed) q;
    };
  }

  -- the second guard's word is stored
  pub second_restored : (x : ℕ) → restored (word_of f.node) x (g ∷ f ∷ []) ≡ g ∷ guard f.node x f.counted ∷ []
  second_restored x = ap (λ (b : Bool). cond {A = List Guard} b (guard g.node x g.counted ∷ f ∷ []) (g ∷ restored (word_of f.node) x (f ∷ []))) (ne_eqb (word_of g.node) (word_of f.node) (λ e. differ (omega arith)))
      ∙ ap (λ (b : Bool). g ∷ cond {A = List Guard} b (guard f.node x f.counted ∷ []) (f ∷ [])) (eq-eqb (word_of f.node) (word_of f.node) refl)

module _ (n parent child above mine : ℕ) (e other : Entry) where
  abbrev U : Guard
  U = guard parent above (Available other)

  abbrev L : Guard
  L = guard child mine (Busy n e)

  abbrev P : Type 0
  P = Post HuntPart

  abbrev V : Type 0
  V = View HuntPart

  -- the pair is as it was taken
  abbrev pub paired : P
  paired = guarding_flight n e child (U ∷ L ∷ [])

  pub can_climb : (v : V) → v.post ≡ paired → child / 2 ≡ parent → raw_of e ≤ raw_of other → CanClimb v parent mine
  can_climb v q half under = record {
    above = U;
    below = L;
    others = [];
    guards = ap (λ (p : P). p.own.guards) q;
    is = refl;
    child = half;
    entry = e;
    other = other;
    available = refl;
    busy = ap (λ (z : ℕ). Busy z e) (sym (ap (λ (p : P). p.number) q));
    under = under;
    stored = refl;
    climbing = ap (λ (p : P). p.own.climbing) q;
    place = ap (λ (p : P). p.own.place) q;
  }

  -- the entry has climbed, and then the child's word is stored
  abbrev pub risen : P
  risen = guarding_flight n e parent (guard parent mine (Busy n e) ∷ guard child mine (Available other) ∷ [])

  abbrev pub lowered : P
  lowered = guarding_flight n e parent (guard parent mine (Busy n e) ∷ guard child above (Available other) ∷ [])

  pub to_risen : (v w : V) → v.post ≡ paired → w ≡ with_post v (climbed v.post) → w.post ≡ risen
  to_risen v w q t = ap (λ (z : V). z.post) t ∙ ap climbed q

  pub second_guarded : (v : V) → v.post ≡ risen → HasGuard hunt_nodes v child
  second_guarded v q = record { guard = guard child mine (Available other); has = subst (λ (p : P). Contains p.own.guards (guard child mine (Available other))) (sym q) (1, omega arith, refl); is = refl }

  pub to_lowered : (v w : V) → parent ≢ child → v.post ≡ risen → w ≡ with_post v (guarding hunt_nodes v.post (restored (word_of child) above v.post.own.guards)) → w.post ≡ lowered
  to_lowered v w differ q t = ap (λ (z : V). z.post) t ∙ (ap (λ (p : P). guarding hunt_nodes p (restored (word_of child) above p.own.guards)) q
      ∙ ap (λ (l : List Guard). guarding hunt_nodes risen l) (second_restored n (Some e) parent 1 (guard parent mine (Busy n e)) (guard child mine (Available other)) differ above))

  pub lowered_held : (v : V) → parent ≢ child → Means (Busy n e) mine → Means (Available other) above → v.post ≡ lowered → HoldsTwo hunt_nodes v parent child
  lowered_held v differ busy available q = holds_two n (Some e) parent 1 (guard parent mine (Busy n e)) (guard child above (Available other)) differ v q busy available

  pub to_parent : (v w : V) → parent ≢ child → v.post ≡ lowered → ComesTo v w (without_node hunt_nodes (without_node hunt_nodes v.post child) parent) → w.post ≡ in_flight n e parent
  to_parent v w differ q t = t.post ∙ (ap (λ (p : P). without_node hunt_nodes (without_node hunt_nodes p child) parent) q
      ∙ two_freed n (Some e) parent 1 (guard parent mine (Busy n e)) (guard child above (Available other)) differ)

  -- the insert is done
  pub may_settle : (k : Limits) (id : ℕ) (v : V) → 1 ≤ n → v.post ≡ paired → child / 2 ≡ parent → raw_of other ≤ raw_of e → MayDraw hunt_rule k id v (Insert e) 1
  may_settle k id v low q half under = may_settle_below k id v U L other e (ap (λ (p : P). p.own.guards) q) refl under (ap (λ (z : ℕ). Busy z e) (sym (ap (λ (p : P). p.number) q))) half
      (let is = ap (λ (p : P). p.number) q in omega arith) (ap (λ (p : P). p.owed) q) (ap (λ (p : P). p.own.climbing) q)

  abbrev pub done : P
  done = post_with n false None [] (record idle { guards = U ∷ guard child mine (Available e) ∷ [] })

  abbrev pub stored_done : ℕ → P
  stored_done x = post_with n false None [] (record idle { guards = U ∷ guard child x (Available e) ∷ [] })

  pub to_done : (first : ℕ) (p : P) → p ≡ paired → placed_post p (insertion p.own.climbing) (after_insert p.own.climbing p.own) first ≡ done
  to_done first p q = ap (λ (z : P). placed_post z (insertion z.own.climbing) (after_insert z.own.climbing z.own) first) q

  pub done_guarded : (v : V) → v.post ≡ done → HasGuard hunt_nodes v child
  done_guarded v q = record { guard = guard child mine (Available e); has = subst (λ (p : P). Contains p.own.guards (guard child mine (Available e))) (sym q) (1, omega arith, refl); is = refl }

  pub to_stored : (x : ℕ) (v w : V) → parent ≢ child → v.post ≡ done → w ≡ with_post v (guarding hunt_nodes v.post (restored (word_of child) x v.post.own.guards)) → w.post ≡ stored_done x
  to_stored x v w differ q t = ap (λ (z : V). z.post) t ∙ (ap (λ (p : P). guarding hunt_nodes p (restored (word_of child) x p.own.guards)) q
      ∙ ap (λ (l : List Guard). guarding hunt_nodes done l) (second_restored n None 0 0 U (guard child mine (Available e)) differ x))

  pub done_held : (x : ℕ) (v : V) → parent ≢ child → Means (Available other) above → Means (Available e) x → v.post ≡ stored_done x → HoldsTwo hunt_nodes v parent child
  done_held x v differ upper lower q = holds_two n None 0 0 U (guard child x (Available e)) differ v q upper lower

  pub to_rest : (x : ℕ) (v w : V) → parent ≢ child → v.post ≡ stored_done x → ComesTo v w (without_node hunt_nodes (without_node hunt_nodes v.post child) parent) → w.post ≡ empty_post idle n
  to_rest x v w differ q t = t.post ∙ (ap (λ (p : P). without_node hunt_nodes (without_node hunt_nodes p child) parent) q ∙ two_freed n None 0 0 U (guard child x (Available e)) differ)
