-- The draws of the heap are allowed.
use Rattle.std.proofs.Common.{◌≡◌, ℕ, ◌+◌, ◌/◌, ◌<◌, ◌≤◌, [], ◌∷◌, length, sym, ap, subst}
use Rattle.std.specs.Prelude.{Contains, slice_index}
use Rattle.pq_words.specs.declared.entries.Entry.{Entry}
use Rattle.pq_words.specs.Entries.{raw_of}
use Rattle.pq_model.specs.declared.marks.Act.TheVariants.{Insert}
use Rattle.pq_seats.specs.declared.views.Limits.{Limits}
use Rattle.pq_seats.specs.declared.views.View.{View}
use Rattle.pq_seats.specs.Batches.{marks_of}
use Rattle.pq_seats.specs.Allowed.{Places, MayDraw}
use Rattle.pq_hunt.specs.declared.nodes.Node.TheVariants.{Available, Busy}
use Rattle.pq_hunt.specs.Guards.{Guard}
use Rattle.pq_hunt.specs.declared.views.HuntPart.{HuntPart}
use Rattle.pq_hunt.specs.Layout.{heap_lock}
use Rattle.pq_hunt.specs.Batches.{insertion, after_insert}
use Rattle.pq_hunt.specs.Rules.{hunt_rule}
use Rattle.pq_hunt.proofs.Keeping.InsertDraws.{places_full, places_done_root, places_done_below}

module _ (k : Limits) (id : ℕ) (v : View HuntPart) where
  pub may_refuse : (e : Entry) → 0 < v.post.number → v.post.owed ≡ [] → v.post.own.climbing ≡ 0 → Contains v.post.locks heap_lock → v.post.own.size_counted ≡ k.capacity → MayDraw hunt_rule k id v (Insert e) 1
  may_refuse e positive owed idle locked full = (
    ap (λ (c : ℕ). length (marks_of v.post.number (Insert e) (insertion c))) idle,
    λ s h at. subst (λ (c : ℕ). Places hunt_rule k id v (Insert e) (insertion c) (after_insert c v.post.own) (slice_index s.words 0 + 1) s h) (sym idle) (places_full k s h id v at e (slice_index s.words 0 + 1) positive owed idle locked full),
  )

  pub may_settle_root : (f : Guard) (e : Entry) → v.post.own.guards ≡ f ∷ [] → f.counted ≡ Busy v.post.number e → f.node ≡ 1 → 0 < v.post.number → v.post.owed ≡ [] → v.post.own.climbing ≡ 1 → MayDraw hunt_rule k id v (Insert e) 1
  may_settle_root f e guards busy root positive owed climbing = (
    ap (λ (c : ℕ). length (marks_of v.post.number (Insert e) (insertion c))) climbing,
    λ s h at. subst (λ (c : ℕ). Places hunt_rule k id v (Insert e) (insertion c) (after_insert c v.post.own) (slice_index s.words 0 + 1) s h) (sym climbing) (places_done_root k s h id v at f e (slice_index s.words 0 + 1) guards busy root positive owed climbing),
  )

  pub may_settle_below : (g f : Guard) (x e : Entry) → v.post.own.guards ≡ g ∷ f ∷ [] → g.counted ≡ Available x → raw_of x ≤ raw_of e → f.counted ≡ Busy v.post.number e → f.node / 2 ≡ g.node
      → 0 < v.post.number → v.post.owed ≡ [] → v.post.own.climbing ≡ 1 → MayDraw hunt_rule k id v (Insert e) 1
  may_settle_below g f x e guards above under busy child positive owed climbing = (
    ap (λ (c : ℕ). length (marks_of v.post.number (Insert e) (insertion c))) climbing,
    λ s h at. subst (λ (c : ℕ). Places hunt_rule k id v (Insert e) (insertion c) (after_insert c v.post.own) (slice_index s.words 0 + 1) s h) (sym climbing) (places_done_below k s h id v at g f x e (slice_index s.words 0 + 1) guards above under busy child positive owed climbing),
  )
