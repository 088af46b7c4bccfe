use Rattle.std.proofs.Common.{[], ap, sym, refl, ◌∙◌, subst, arith}
use Rattle.std.specs.Prelude.{Contains}
use Rattle.pq_model.specs.declared.passes.Known.{Known}
use Rattle.pq_model.specs.Passes.{Knows}
use Rattle.pq_seats.specs.declared.views.Post.{Post}
use Rattle.pq_seats.specs.declared.views.View.{View}
use Rattle.pq_seats.specs.Views.{known_of}
use Rattle.pq_hunt.specs.declared.views.HuntPart.{HuntPart}
use Rattle.pq_hunt.specs.Batches.{removal, hunt_batch}
use Rattle.pq_hunt.specs.HeldPosts.{without_heap}
use Rattle.pq_hunt.proofs.Allowing.MayRemove.{may_empty}
use Rattle.pq_hunt.proofs.Calls.Removing as removing
use Rattle.pq_hunt.proofs.remove.draw_empty.Goals as goal

pub draw-place-requires-clause-allowed : goal.draw-place-requires-clause-allowed
draw-place-requires-clause-allowed c =
    let q = c.requires.begun in let own = c.requires.own in let seated = own.seated.0 in let named = own.named in
    may_empty c.args.table.now.table.shared.key c.args.pass.now.seat.id c.args.pass.now.seat.me.0 c.args.act c.requires.removes (omega arith) (ap (λ (p : Post HuntPart). p.owed) q) (ap (λ (p : Post HuntPart). p.own.climbing) q)
    (subst (λ (p : Post HuntPart). Contains p.locks 24) (sym q) (0, omega arith, refl)) (ap (λ (p : Post HuntPart). p.own.size_counted) q) (ap (λ (p : Post HuntPart). p.own.guards) q)

pub free_heap-requires-clause-held : goal.free_heap-requires-clause-held
free_heap-requires-clause-held c = let n = c.args.pass.now.number in let v0 = c.args.pass.now.seat.me.0 in
    let q1 = ap (λ (z : View HuntPart). z.post) c.draw-place.ensures.view ∙ removing.to_empty n c.args.act c.requires.removes c.draw-place.result v0.post c.requires.begun in
    subst (λ (p : Post HuntPart). Contains p.locks 24) (sym q1) (0, omega arith, refl)

pub free_heap-requires-clause-stored : goal.free_heap-requires-clause-stored
free_heap-requires-clause-stored c = let n = c.args.pass.now.number in let v0 = c.args.pass.now.seat.me.0 in
    let q1 = ap (λ (z : View HuntPart). z.post) c.draw-place.ensures.view ∙ removing.to_empty n c.args.act c.requires.removes c.draw-place.result v0.post c.requires.begun in
    ap (λ (p : Post HuntPart). p.own.size_stored) q1 ∙ sym (ap (λ (p : Post HuntPart). p.own.size_counted) q1)

pub returns-clause-answered : goal.returns-clause-answered
returns-clause-answered c = let n = c.args.pass.now.number in let v0 = c.args.pass.now.seat.me.0 in let v1 = c.draw-place.new.pass.seat.me.0 in let v2 = c.free_heap.new.pass.seat.me.0 in let f = c.free_heap.ensures.freed in
    let q1 = ap (λ (z : View HuntPart). z.post) c.draw-place.ensures.view ∙ removing.to_empty n c.args.act c.requires.removes c.draw-place.result v0.post c.requires.begun in
    let q2 = f.post ∙ ap without_heap q1 in
    let same = removing.same_known v1 v2 (ap (λ (p : Post HuntPart). p.number) q2 ∙ sym (ap (λ (p : Post HuntPart). p.number) q1)) f.lanes f.front in record {
      rests = q2;
      call = removing.makes (known_of v0) (known_of v0) (known_of v1) (known_of v2) c.args.act (hunt_batch v0.post.own c.args.act) (removal []) c.draw-place.result c.draw-place.result refl (sym same)
          (removing.empty_is n c.args.act c.requires.removes v0.post c.requires.begun) (omega arith) c.draw-place.ensures.call;
      knows = subst (λ (k : Known). Knows c.args.table.now.table.shared.key.seats c.args.table.now.table.shared.key.capacity k) (sym same) c.draw-place.ensures.knows;
    }
