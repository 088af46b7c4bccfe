use Rattle.std.proofs.Common.{ap, sym, ◌∙◌, subst}
use Rattle.pq_words.specs.HeapWords.{heap_number}
use Rattle.pq_model.specs.declared.passes.Known.{Known}
use Rattle.pq_model.specs.declared.marks.Reply.TheVariants as replies
use Rattle.pq_model.specs.Passes.{Knows}
use Rattle.pq_seats.specs.declared.views.Post.{Post}
use Rattle.pq_api.specs.Answers.{MakesCall}
use Rattle.pq_seats.specs.Views.{known_of}
use Rattle.pq_hunt.specs.declared.views.HuntPart.{HuntPart}
use Rattle.pq_hunt.proofs.Calls.Removing as removing
use Rattle.pq_hunt.proofs.remove.draw_got.Goals as goal

pub free_node-requires-clause-held : goal.free_node-requires-clause-held
free_node-requires-clause-held c =
    let n = c.args.pass.now.number in let v0 = c.args.pass.now.seat.me.0 in let many = c.requires.gets.many in let p = c.place_got-place.ensures.placed in let v1 = c.place_got-place.new.pass.seat.me.0 in
    removing.done_held n c.args.size (heap_number c.args.root) c.args.last.entry many v1 p.placed

pub free_node-requires-clause-counted : goal.free_node-requires-clause-counted
free_node-requires-clause-counted c =
    let n = c.args.pass.now.number in let v0 = c.args.pass.now.seat.me.0 in let many = c.requires.gets.many in let p = c.place_got-place.ensures.placed in let v1 = c.place_got-place.new.pass.seat.me.0 in
    removing.done_freeable n c.args.size (heap_number c.args.root) c.args.last.entry many v1 p.placed

pub free_heap-requires-clause-held : goal.free_heap-requires-clause-held
free_heap-requires-clause-held c =
    let n = c.args.pass.now.number in let v0 = c.args.pass.now.seat.me.0 in let many = c.requires.gets.many in let p = c.place_got-place.ensures.placed in let v1 = c.place_got-place.new.pass.seat.me.0 in
    let v2 = c.free_node.new.pass.seat.me.0 in let q2 = removing.to_left n c.args.size (heap_number c.args.root) c.args.last.entry many v1 v2 p.placed c.free_node.ensures.freed in
    removing.left_held n c.args.size (heap_number c.args.root) c.args.last.entry many v2 q2

pub free_heap-requires-clause-stored : goal.free_heap-requires-clause-stored
free_heap-requires-clause-stored c =
    let n = c.args.pass.now.number in let v0 = c.args.pass.now.seat.me.0 in let many = c.requires.gets.many in let p = c.place_got-place.ensures.placed in let v1 = c.place_got-place.new.pass.seat.me.0 in
    let v2 = c.free_node.new.pass.seat.me.0 in let q2 = removing.to_left n c.args.size (heap_number c.args.root) c.args.last.entry many v1 v2 p.placed c.free_node.ensures.freed in
    ap (λ (z : Post HuntPart). z.own.size_stored) q2 ∙ sym (ap (λ (z : Post HuntPart). z.own.size_counted) q2)

pub returns-clause-opened : goal.returns-clause-opened
returns-clause-opened c =
    let n = c.args.pass.now.number in let v0 = c.args.pass.now.seat.me.0 in let many = c.requires.gets.many in let p = c.place_got-place.ensures.placed in let v1 = c.place_got-place.new.pass.seat.me.0 in
    let v2 = c.free_node.new.pass.seat.me.0 in let q2 = removing.to_left n c.args.size (heap_number c.args.root) c.args.last.entry many v1 v2 p.placed c.free_node.ensures.freed in
    let v3 = c.free_heap.new.pass.seat.me.0 in let f = c.free_heap.ensures.freed in let q3 = removing.to_hole n c.args.size (heap_number c.args.root) c.args.last.entry many v2 v3 q2 f in
    let same = removing.same_known v1 v3 (ap (λ (z : Post HuntPart). z.number) q3 ∙ sym (ap (λ (z : Post HuntPart). z.number) p.placed)) (f.lanes ∙ c.free_node.ensures.freed.lanes) (f.front ∙ c.free_node.ensures.freed.front) in
    record {
      word = heap_number c.args.root;
      opened = q3;
      call = subst (λ (k : Known). MakesCall (known_of v0) c.place_got-place.result c.args.act (replies.Got c.args.root.entry) k) (sym same) p.call;
      knows = subst (λ (k : Known). Knows c.args.table.now.table.shared.key.seats c.args.table.now.table.shared.key.capacity k) (sym same) p.knows;
    }
