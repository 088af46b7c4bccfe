-- The posts of an insert that ends at the root.
use Rattle.std.proofs.Common.{◌≡◌, None, false, ℕ, ◌≤◌, [], ◌∷◌, refl, sym, ap, ◌∙◌, subst, arith}
use Rattle.std.specs.Prelude.{Contains}
use Rattle.pq_words.specs.declared.entries.Entry.{Entry}
use Rattle.pq_model.specs.declared.marks.Act.TheVariants.{Insert}
use Rattle.pq_seats.specs.declared.views.Limits.{Limits}
use Rattle.pq_seats.specs.declared.views.Post.{Post}
use Rattle.pq_seats.specs.declared.views.View.{View}
use Rattle.pq_seats.specs.Views.{with_post, empty_post}
use Rattle.pq_seats.specs.Posts.{placed_post}
use Rattle.pq_seats.specs.Allowed.{MayDraw}
use Rattle.pq_hunt.specs.declared.nodes.Node.{Node}
use Rattle.pq_hunt.specs.declared.nodes.Node.TheVariants.{Available, Busy}
use Rattle.pq_hunt.specs.Words.{Means}
use Rattle.pq_hunt.specs.Guards.{Guard}
use Rattle.pq_hunt.specs.declared.views.HuntPart.{HuntPart}
use Rattle.pq_nodes.specs.Views.{guard, restored}
use Rattle.pq_hunt.specs.Views.{idle}
use Rattle.pq_hunt.specs.Batches.{insertion, after_insert}
use Rattle.pq_hunt.specs.Rules.{hunt_rule}
use Rattle.pq_nodes.specs.Parts.{guarding}
use Rattle.pq_hunt.specs.Steps.{busy_number, missing}
use Rattle.pq_nodes.specs.Passes.{ComesTo}
use Rattle.pq_nodes.specs.Parts.{with_node, without_node, IsFreeable, HasGuard}
use Rattle.pq_hunt.specs.Climbing.{CanFind}
use Rattle.pq_hunt.specs.HeldPosts.{in_flight, guarding_flight, post_with}
use Rattle.pq_hunt.proofs.Heap.Meanings.{one_meaning}
use Rattle.pq_hunt.proofs.Calls.Leafing.{busy_means}
use Rattle.pq_hunt.proofs.Allowing.MayDraw.{may_settle_root}
use Rattle.pq_hunt.specs.NodeParts.{hunt_nodes}

abbrev P : Type 0
P = Post HuntPart

abbrev V : Type 0
V = View HuntPart

-- the root's lock is held, and nothing else
module _ (n : ℕ) (e : Entry) (word : ℕ) (counted : Node) where
  abbrev pub root : Guard
  root = guard 1 word counted

  abbrev pub at_root : P
  at_root = guarding_flight n e 1 (root ∷ [])

  pub to_root : (v w : V) → v.post ≡ in_flight n e 1 → ComesTo v w (with_node hunt_nodes v.post root) → w.post ≡ at_root
  to_root v w q t = t.post ∙ ap (λ (p : P). with_node hunt_nodes p root) q

  pub root_has : (w : V) → w.post ≡ at_root → Contains w.post.own.guards root
  root_has w q = subst (λ (p : P). Contains p.own.guards root) (sym q) (0, omega arith, refl)

  pub find_root : (w : V) → Means counted word → w.post ≡ at_root → CanFind w 1 × (w.post.owed ≡ [])
  find_root w means q = (
    record {
      guard = root;
      has = root_has w q;
      is = refl;
      means = means;
      place = ap (λ (p : P). p.own.place) q;
      climbing = ap (λ (p : P). p.own.climbing) q;
      entry = e;
      flies = ap (λ (p : P). p.flight) q;
    },
    ap (λ (p : P). p.owed) q,
  )

  pub root_mine : (w : V) (mine : ℕ) → 1 ≤ n → n ≤ 16 → Means counted word → mine ≡ word → mine ≡ busy_number n e → w.post ≡ at_root
      → w.post ≡ guarding_flight n e 1 (guard 1 (busy_number n e) (Busy n e) ∷ [])
  root_mine w mine low high means stored is q =
      let busy : counted ≡ Busy n e = one_meaning counted (Busy n e) word means (subst (λ (z : ℕ). Means (Busy n e) z) (sym is ∙ stored) (busy_means n e low high)) in
      q ∙ (λ j. guarding_flight n e 1 (guard 1 ((sym stored ∙ is) j) (busy j) ∷ []))

  pub root_freeable : (v w : V) → Means counted word → v.post ≡ at_root → w ≡ with_post v (missing v.post) → IsFreeable hunt_nodes w 1
  root_freeable v w means q is = record {
    guard = root;
    has = subst (λ (z : V). Contains z.post.own.guards root) (sym is) (root_has v q);
    is = refl;
    means = means;
    allowed = λ z. ap (λ (z : V). z.post.owed) is ∙ ap (λ (p : P). p.owed) q;
  }

-- the root is Busy with the seat's entry
module _ (n : ℕ) (e : Entry) where
  abbrev pub busy_root : P
  busy_root = guarding_flight n e 1 (guard 1 (busy_number n e) (Busy n e) ∷ [])

  pub may_end : (k : Limits) (id : ℕ) (v : V) → 1 ≤ n → v.post ≡ busy_root → MayDraw hunt_rule k id v (Insert e) 1
  may_end k id v low q = may_settle_root k id v (guard 1 (busy_number n e) (Busy n e)) e (ap (λ (p : P). p.own.guards) q) (ap (λ (z : ℕ). Busy z e) (sym (ap (λ (p : P). p.number) q))) refl
      (let is = ap (λ (p : P). p.number) q in omega arith) (ap (λ (p : P). p.owed) q) (ap (λ (p : P). p.own.climbing) q)

  abbrev pub ended : ℕ → P
  ended x = post_with n false None [] (record idle { guards = guard 1 x (Available e) ∷ [] })

  pub to_ended : (first : ℕ) (p : P) → p ≡ busy_root → placed_post p (insertion p.own.climbing) (after_insert p.own.climbing p.own) first ≡ ended (busy_number n e)
  to_ended first p q = ap (λ (z : P). placed_post z (insertion z.own.climbing) (after_insert z.own.climbing z.own) first) q

  pub ended_guarded : (v : V) (x : ℕ) → v.post ≡ ended x → HasGuard hunt_nodes v 1
  ended_guarded v x q = record { guard = guard 1 x (Available e); has = subst (λ (p : P). Contains p.own.guards (guard 1 x (Available e))) (sym q) (0, omega arith, refl); is = refl }

  pub to_ended_word : (x : ℕ) (v w : V) → v.post ≡ ended (busy_number n e) → w ≡ with_post v (guarding hunt_nodes v.post (restored 37 x v.post.own.guards)) → w.post ≡ ended x
  to_ended_word x v w q t = ap (λ (z : V). z.post) t ∙ ap (λ (p : P). guarding hunt_nodes p (restored 37 x p.own.guards)) q

  pub ended_freeable : (x : ℕ) (v : V) → Means (Available e) x → v.post ≡ ended x → IsFreeable hunt_nodes v 1
  ended_freeable x v means q = record {
    guard = guard 1 x (Available e);
    has = subst (λ (p : P). Contains p.own.guards (guard 1 x (Available e))) (sym q) (0, omega arith, refl);
    is = refl;
    means = means;
    allowed = λ z. ap (λ (p : P). p.owed) q;
  }

  pub to_end : (x : ℕ) (v w : V) → v.post ≡ ended x → ComesTo v w (without_node hunt_nodes v.post 1) → w.post ≡ empty_post idle n
  to_end x v w q t = t.post ∙ ap (λ (p : P). without_node hunt_nodes p 1) q
