use Rattle.std.proofs.Common.{◌≡◌, ℕ, ◌+◌, [], ◌∷◌, ap, sym, ◌∙◌, subst, arith}
use Rattle.pq_words.specs.HeapWords.{heap_number}
use Rattle.pq_model.specs.declared.passes.Known.{Known}
use Rattle.pq_model.specs.declared.marks.Reply.TheVariants as replies
use Rattle.pq_model.specs.Passes.{Knows}
use Rattle.pq_seats.specs.declared.views.Post.{Post}
use Rattle.pq_seats.specs.declared.views.View.{View}
use Rattle.pq_seats.specs.Views.{known_of, empty_post}
use Rattle.pq_nodes.specs.Views.{guard}
use Rattle.pq_hunt.specs.Views.{idle}
use Rattle.pq_seats.specs.Batches.{letters_of}
use Rattle.pq_hunt.specs.declared.nodes.Node.{Node}
use Rattle.pq_hunt.specs.declared.nodes.Node.TheVariants.{Empty}
use Rattle.pq_hunt.specs.declared.views.HuntPart.{HuntPart}
use Rattle.pq_hunt.specs.Words.{Means, node_of}
use Rattle.pq_hunt.specs.Batches.{flight_at, hunt_batch}
use Rattle.pq_hunt.specs.HeldPosts as posts
use Rattle.pq_hunt.proofs.Calls.Removing as removing
use Rattle.pq_hunt.proofs.remove.draw_last.Goals as goal

pub draw-place-requires-clause-allowed : goal.draw-place-requires-clause-allowed
draw-place-requires-clause-allowed c =
    let n = c.args.pass.now.number in let v0 = c.args.pass.now.seat.me.0 in let own = c.requires.own in let low = own.seated.0 in let root = c.args.root in let r = node_of root in let act = c.args.act in let may = c.requires.may in let before = c.helped-before.ensures in
    let v1 = c.store_size.new.pass.seat.me.0 in let q1 = removing.to_unsized n c.args.root c.requires.root act may v0 v1 c.requires.post c.store_size.ensures.view in
    removing.may_take_last n c.args.root c.requires.root act may c.args.table.now.table.shared.key c.store_size.new.pass.seat.id v1 (1 + c.helped-before.result) low q1 (omega (arith, before))

pub free_root-requires-clause-drawn : goal.free_root-requires-clause-drawn
free_root-requires-clause-drawn c =
    let n = c.args.pass.now.number in let v0 = c.args.pass.now.seat.me.0 in let own = c.requires.own in let low = own.seated.0 in let root = c.args.root in let r = node_of root in let act = c.args.act in let may = c.requires.may in let before = c.helped-before.ensures in
    let v1 = c.store_size.new.pass.seat.me.0 in let q1 = removing.to_unsized n c.args.root c.requires.root act may v0 v1 c.requires.post c.store_size.ensures.view in
    let place = c.draw-place.result in let v2 = c.draw-place.new.pass.seat.me.0 in let drew = c.draw-place.ensures.view in let q2 = ap (λ (z : View HuntPart). z.post) drew ∙ removing.to_last_drawn n c.args.root c.requires.root act may place v1.post q1 in
    let number = c.draw-place.ensures.same.0 ∙ c.store_size.ensures.stays.same.0 in let b = hunt_batch v1.post.own act in let is_b = removing.last_batch n c.args.root c.requires.root act may v1.post q1 ∙ removing.last_reply n c.args.root c.requires.root act may in
    subst (λ (z : ℕ). (s : ℕ) × (x : ℕ) × (counted : Node) × Means counted 0 × (v2.post ≡ posts.removing z (letters_of place (flight_at r)) s s (guard 1 x counted ∷ []))) (sym number)
    (0, heap_number root, Empty, removing.empty_means, q2)

pub returns-clause-answered : goal.returns-clause-answered
returns-clause-answered c =
    let n = c.args.pass.now.number in let v0 = c.args.pass.now.seat.me.0 in let own = c.requires.own in let low = own.seated.0 in let root = c.args.root in let r = node_of root in let act = c.args.act in let may = c.requires.may in let before = c.helped-before.ensures in
    let v1 = c.store_size.new.pass.seat.me.0 in let q1 = removing.to_unsized n c.args.root c.requires.root act may v0 v1 c.requires.post c.store_size.ensures.view in
    let place = c.draw-place.result in let v2 = c.draw-place.new.pass.seat.me.0 in let drew = c.draw-place.ensures.view in let q2 = ap (λ (z : View HuntPart). z.post) drew ∙ removing.to_last_drawn n c.args.root c.requires.root act may place v1.post q1 in
    let number = c.draw-place.ensures.same.0 ∙ c.store_size.ensures.stays.same.0 in let b = hunt_batch v1.post.own act in let is_b = removing.last_batch n c.args.root c.requires.root act may v1.post q1 ∙ removing.last_reply n c.args.root c.requires.root act may in
    let v3 = c.free_root.new.pass.seat.me.0 in let f = c.free_root.ensures.rests in
    let same1 = removing.same_known v0 v1 (ap (λ (p : Post HuntPart). p.number) q1 ∙ sym (ap (λ (p : Post HuntPart). p.number) c.requires.post)) (ap (λ (z : View HuntPart). z.lanes) c.store_size.ensures.view) (ap (λ (z : View HuntPart). z.front) c.store_size.ensures.view) in
    let same = removing.same_known v2 v3 (ap (λ (p : Post HuntPart). p.number) f.post ∙ (number ∙ sym (ap (λ (p : Post HuntPart). p.number) q2))) f.lanes f.front in
    record {
      rests = f.post ∙ ap (λ (z : ℕ). empty_post idle z) number;
      call = removing.makes (known_of v1) (known_of v0) (known_of v2) (known_of v3) act b (record { before = flight_at r; reply = replies.Got root.entry; after = [] }) place (place + c.helped-before.result) same1 (sym same) is_b (omega (arith, before)) c.draw-place.ensures.call;
      knows = subst (λ (k : Known). Knows c.args.table.now.table.shared.key.seats c.args.table.now.table.shared.key.capacity k) (sym same) c.draw-place.ensures.knows;
    }
