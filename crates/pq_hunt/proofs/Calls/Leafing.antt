-- The posts of a seat that takes a leaf, from the reading of the size to the freeing of the leaf's lock.
use Rattle.std.proofs.Common.{◌≡◌, ◌≢◌, Some, ℕ, ◌-◌, ◌≤◌, Bool, true, false, cond, eqb, List, [], ◌∷◌, refl, sym, ap, ◌∙◌, subst, arith, eq-eqb, ne_eqb}
use Rattle.std.specs.Prelude.{Contains}
use Rattle.pq_words.specs.declared.entries.Entry.{Entry}
use Rattle.pq_words.specs.declared.heap_words.Tag.TheVariants as tags
use Rattle.pq_words.specs.HeapWords.{heap_number}
use Rattle.pq_seats.specs.declared.views.Post.{Post}
use Rattle.pq_seats.specs.Posts.{less}
use Rattle.pq_hunt.specs.declared.nodes.Node.{Node}
use Rattle.pq_hunt.specs.declared.nodes.Node.TheVariants.{Available, Busy}
use Rattle.pq_hunt.specs.Words.{Means}
use Rattle.pq_hunt.specs.Guards.{Guard}
use Rattle.pq_hunt.specs.declared.views.HuntPart.{HuntPart}
use Rattle.pq_nodes.specs.Layout.{lock_of}
use Rattle.pq_nodes.specs.Views.{guard}
use Rattle.pq_hunt.specs.Steps.{busy_number, sizing, leafed}
use Rattle.pq_seats.specs.declared.views.View.{View}
use Rattle.pq_seats.specs.Views.{with_post}
use Rattle.pq_nodes.specs.Passes.{ComesTo}
use Rattle.pq_nodes.specs.Parts.{with_node, without_node, IsFreeable}
use Rattle.pq_hunt.specs.HeldPosts.{without_heap, at_heap, in_flight}
use Rattle.pq_hunt.specs.Climbing.{CanLeaf}
use Rattle.pq_hunt.specs.NodeParts.{hunt_nodes}
use Rattle.pq_hunt.specs.Layout.{heap_lock}

-- the word of a Busy node means it
pub busy_means : (n : ℕ) (e : Entry) → 1 ≤ n → n ≤ 16 → Means (Busy n e) (busy_number n e)
busy_means n e low high = record {
  packed = record { tag = tags.Busy; owner = n; entry = e };
  fits = record { first = low; last = high };
  number = refl;
  node = refl;
}

pub available_means : (e : Entry) → Means (Available e) (heap_number (record { tag = tags.Available; owner = 0; entry = e }))
available_means e = record { packed = record { tag = tags.Available; owner = 0; entry = e }; fits = refl; number = refl; node = refl }

-- a lock's number in a list of locks
lock_test : (i j : ℕ) → i ≢ j → eqb (lock_of i) (lock_of j) ≡ false
lock_test i j ne = ne_eqb (lock_of i) (lock_of j) (λ e. ne (omega arith))

heap_test : (i : ℕ) → eqb (lock_of i) heap_lock ≡ false
heap_test i = ne_eqb (lock_of i) heap_lock (λ e. omega arith)

own_test : (i : ℕ) → eqb (lock_of i) (lock_of i) ≡ true
own_test i = eq-eqb (lock_of i) (lock_of i) refl

-- the leaf's guard, and the posts of a seat that takes a leaf
module _ (n leaf : ℕ) (e : Entry) (was word : ℕ) (counted : Node) where
  abbrev pub locked : Post HuntPart
  locked = with_node hunt_nodes (at_heap n (leaf - 1)) (guard leaf was counted)

  abbrev pub sized : Post HuntPart
  sized = sizing locked leaf

  abbrev pub busy : Post HuntPart
  busy = leafed sized word e

  abbrev pub unheaped : Post HuntPart
  unheaped = without_heap busy

  -- the heap's lock is freed first
  pub locks_left : unheaped.locks ≡ lock_of leaf ∷ []
  locks_left = ap (λ (b : Bool). cond {A = List ℕ} b (less heap_lock (heap_lock ∷ [])) (lock_of leaf ∷ less heap_lock (heap_lock ∷ []))) (heap_test leaf)

  pub leaf_taken : without_node hunt_nodes unheaped leaf ≡ in_flight n e leaf
  leaf_taken = λ j. record {
    number = n;
    locks = (ap (λ (l : List ℕ). less (lock_of leaf) l) locks_left ∙ ap (λ (b : Bool). cond {A = List ℕ} b [] (lock_of leaf ∷ [])) (own_test leaf)) j;
    flight = Some e;
    owed = [];
    own = record {
      guards = ap (λ (b : Bool). cond {A = List Guard} b [] (guard leaf word (Busy n e) ∷ [])) (own_test leaf) j;
      size_stored = 0;
      size_counted = 0;
      place = leaf;
      climbing = 1;
      lettered = false;
    };
  }

  abbrev V : Type 0
  V = View HuntPart

  pub to_locked : (v w : V) → v.post ≡ at_heap n (leaf - 1) → ComesTo v w (with_node hunt_nodes v.post (guard leaf was counted)) → w.post ≡ locked
  to_locked v w q t = t.post ∙ ap (λ (p : Post HuntPart). with_node hunt_nodes p (guard leaf was counted)) q

  pub to_sized : (v w : V) → v.post ≡ locked → w ≡ with_post v (sizing v.post leaf) → w.post ≡ sized
  to_sized v w q t = ap (λ (z : V). z.post) t ∙ ap (λ (p : Post HuntPart). sizing p leaf) q

  pub to_busy : (v w : V) → v.post ≡ sized → w ≡ with_post v (leafed v.post word e) → w.post ≡ busy
  to_busy v w q t = ap (λ (z : V). z.post) t ∙ ap (λ (p : Post HuntPart). leafed p word e) q

  pub to_unheaped : (v w : V) → v.post ≡ busy → ComesTo v w (without_heap v.post) → w.post ≡ unheaped
  to_unheaped v w q t = t.post ∙ ap without_heap q

  pub to_flight : (v w : V) → v.post ≡ unheaped → ComesTo v w (without_node hunt_nodes v.post leaf) → w.post ≡ in_flight n e leaf
  to_flight v w q t = t.post ∙ (ap (λ (p : Post HuntPart). without_node hunt_nodes p leaf) q ∙ leaf_taken)

  pub can_leaf : (v : V) → 1 ≤ leaf → v.post ≡ sized → CanLeaf v leaf
  can_leaf v low q = record {
    guard = guard leaf was counted;
    others = [];
    guards = ap (λ (p : Post HuntPart). p.own.guards) q;
    is = refl;
    locked = subst (λ (p : Post HuntPart). Contains p.locks heap_lock) (sym q) (1, omega arith, refl);
    next = let counted_is = ap (λ (p : Post HuntPart). p.own.size_counted) q in omega arith;
    idle = ap (λ (p : Post HuntPart). p.own.climbing) q;
    quiet = ap (λ (p : Post HuntPart). p.flight) q;
  }

  pub busy_held : (v : V) → v.post ≡ busy → Contains v.post.locks heap_lock
  busy_held v q = subst (λ (p : Post HuntPart). Contains p.locks heap_lock) (sym q) (1, omega arith, refl)

  pub busy_stored : (v : V) → v.post ≡ busy → v.post.own.size_stored ≡ v.post.own.size_counted
  busy_stored v q = ap (λ (p : Post HuntPart). p.own.size_stored) q ∙ sym (ap (λ (p : Post HuntPart). p.own.size_counted) q)

  pub leaf_held : (v : V) → v.post ≡ unheaped → Contains v.post.locks (lock_of leaf)
  leaf_held v q = subst (λ (l : List ℕ). Contains l (lock_of leaf)) (sym (ap (λ (p : Post HuntPart). p.locks) q ∙ locks_left)) (0, omega arith, refl)

  pub leaf_freeable : (v : V) → Means (Busy n e) word → v.post ≡ unheaped → IsFreeable hunt_nodes v leaf
  leaf_freeable v means q = record {
    guard = guard leaf word (Busy n e);
    has = subst (λ (p : Post HuntPart). Contains p.own.guards (guard leaf word (Busy n e))) (sym q) (0, omega arith, refl);
    is = refl;
    means = means;
    allowed = λ z. ap (λ (p : Post HuntPart). p.owed) q;
  }
