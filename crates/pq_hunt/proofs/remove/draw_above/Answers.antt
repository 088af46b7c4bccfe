use Rattle.std.proofs.Common.{◌≡◌, ℕ, ◌+◌, [], ◌∷◌, ap, sym, refl, ◌∙◌, subst, arith}
use Rattle.pq_words.specs.HeapWords.{heap_number}
use Rattle.pq_model.specs.declared.passes.Known.{Known}
use Rattle.pq_model.specs.declared.marks.Act.TheVariants.{RemoveBelow}
use Rattle.pq_model.specs.Passes.{Knows}
use Rattle.pq_seats.specs.declared.views.Post.{Post}
use Rattle.pq_seats.specs.declared.views.View.{View}
use Rattle.pq_seats.specs.Views.{known_of, empty_post}
use Rattle.pq_nodes.specs.Views.{guard}
use Rattle.pq_hunt.specs.Views.{idle}
use Rattle.pq_hunt.proofs.Allowing.MayRemove.{above}
use Rattle.pq_seats.specs.Batches.{letters_of}
use Rattle.pq_hunt.specs.declared.nodes.Node.{Node}
use Rattle.pq_hunt.specs.declared.nodes.Node.TheVariants.{Available}
use Rattle.pq_hunt.specs.declared.views.HuntPart.{HuntPart}
use Rattle.pq_hunt.specs.Words.{Means, node_of}
use Rattle.pq_hunt.specs.Batches.{flight_at, hunt_batch}
use Rattle.pq_hunt.specs.HeldPosts as posts
use Rattle.pq_hunt.proofs.Calls.Leafing.{available_means}
use Rattle.pq_hunt.proofs.Calls.Removing as removing
use Rattle.pq_hunt.proofs.remove.draw_above.Goals as goal

pub draw-place-requires-clause-allowed : goal.draw-place-requires-clause-allowed
draw-place-requires-clause-allowed c =
    let n = c.args.pass.now.number in let v0 = c.args.pass.now.seat.me.0 in let own = c.requires.own in let low = own.seated.0 in let root = c.args.root in let r = node_of root in let size = c.args.size in let limit = c.args.limit in let high = c.requires.above in let before = c.helped-before.ensures in
    removing.may_say_above n c.args.root c.requires.root size limit high c.args.table.now.table.shared.key c.args.pass.now.seat.id v0 (1 + c.helped-before.result) low c.requires.size c.requires.post (omega (arith, before))

pub free_root-requires-clause-drawn : goal.free_root-requires-clause-drawn
free_root-requires-clause-drawn c =
    let n = c.args.pass.now.number in let v0 = c.args.pass.now.seat.me.0 in let own = c.requires.own in let low = own.seated.0 in let root = c.args.root in let r = node_of root in let size = c.args.size in let limit = c.args.limit in let high = c.requires.above in let before = c.helped-before.ensures in
    let place = c.draw-place.result in let v1 = c.draw-place.new.pass.seat.me.0 in let drew = c.draw-place.ensures.view in let q1 = ap (λ (z : View HuntPart). z.post) drew ∙ removing.to_above_drawn n c.args.root c.requires.root size limit high place v0.post c.requires.post in
    let number = c.draw-place.ensures.same.0 in let b = hunt_batch v0.post.own (RemoveBelow limit) in let is_b = removing.above_batch n c.args.root c.requires.root size limit high v0.post c.requires.post in
    subst (λ (z : ℕ). (s : ℕ) × (x : ℕ) × (counted : Node) × Means counted c.pack.result × (v1.post ≡ posts.removing z (letters_of place (flight_at r)) s s (guard 1 x counted ∷ []))) (sym number)
    (size, heap_number root, Available root.entry, subst (λ (z : ℕ). Means (Available root.entry) z) (sym c.pack.ensures.number) (available_means root.entry), q1)

pub returns-clause-answered : goal.returns-clause-answered
returns-clause-answered c =
    let n = c.args.pass.now.number in let v0 = c.args.pass.now.seat.me.0 in let own = c.requires.own in let low = own.seated.0 in let root = c.args.root in let r = node_of root in let size = c.args.size in let limit = c.args.limit in let high = c.requires.above in let before = c.helped-before.ensures in
    let place = c.draw-place.result in let v1 = c.draw-place.new.pass.seat.me.0 in let drew = c.draw-place.ensures.view in let q1 = ap (λ (z : View HuntPart). z.post) drew ∙ removing.to_above_drawn n c.args.root c.requires.root size limit high place v0.post c.requires.post in
    let number = c.draw-place.ensures.same.0 in let b = hunt_batch v0.post.own (RemoveBelow limit) in let is_b = removing.above_batch n c.args.root c.requires.root size limit high v0.post c.requires.post in
    let v2 = c.free_root.new.pass.seat.me.0 in let f = c.free_root.ensures.rests in
    let same = removing.same_known v1 v2 (ap (λ (p : Post HuntPart). p.number) f.post ∙ (number ∙ sym (ap (λ (p : Post HuntPart). p.number) q1))) f.lanes f.front in
    record {
      rests = f.post ∙ ap (λ (z : ℕ). empty_post idle z) number;
      call = removing.makes (known_of v0) (known_of v0) (known_of v1) (known_of v2) (RemoveBelow limit) b (above (posts.saying 1 root)) place (place + c.helped-before.result) refl (sym same) is_b (omega (arith, before)) c.draw-place.ensures.call;
      knows = subst (λ (k : Known). Knows c.args.table.now.table.shared.key.seats c.args.table.now.table.shared.key.capacity k) (sym same) c.draw-place.ensures.knows;
    }
