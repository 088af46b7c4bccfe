use Rattle.std.proofs.Common.{ap, sym, refl, ◌∙◌, subst, arith}
use Rattle.std.specs.Prelude.{Contains}
use Rattle.pq_seats.specs.declared.views.Post.{Post}
use Rattle.pq_seats.specs.declared.views.View.{View}
use Rattle.pq_seats.specs.Batches.{letters_of}
use Rattle.pq_hunt.specs.declared.views.HuntPart.{HuntPart}
use Rattle.pq_hunt.specs.Words.{node_of}
use Rattle.pq_hunt.specs.Batches.{flight_at}
use Rattle.pq_hunt.specs.HeldPosts as posts
use Rattle.pq_hunt.proofs.Calls.Removing as removing
use Rattle.pq_hunt.proofs.remove.free_root.Goals as goal

pub store-requires-clause-guarded : goal.store-requires-clause-guarded
store-requires-clause-guarded c =
    let n = c.args.pass.now.number in let v0 = c.args.pass.now.seat.me.0 in let d = c.requires.drawn in let size = d.0 in let counted = d.2 in let r = node_of c.args.root in let x = c.args.word in let place = c.args.place in
    removing.one_guarded n size r counted (letters_of place (flight_at r)) d.1 v0 d.4

pub tell-requires-clause-owed : goal.tell-requires-clause-owed
tell-requires-clause-owed c =
    let n = c.args.pass.now.number in let v0 = c.args.pass.now.seat.me.0 in let d = c.requires.drawn in let size = d.0 in let counted = d.2 in let r = node_of c.args.root in let x = c.args.word in let place = c.args.place in
    let v1 = c.store.new.pass.seat.me.0 in let q1 = removing.to_word n size r counted (letters_of place (flight_at r)) d.1 x v0 v1 d.4 c.store.ensures.view in
    removing.one_owes n size r counted place x v1 q1

pub free_node-requires-clause-held : goal.free_node-requires-clause-held
free_node-requires-clause-held c =
    let n = c.args.pass.now.number in let v0 = c.args.pass.now.seat.me.0 in let d = c.requires.drawn in let size = d.0 in let counted = d.2 in let r = node_of c.args.root in let x = c.args.word in let place = c.args.place in
    let v1 = c.store.new.pass.seat.me.0 in let q1 = removing.to_word n size r counted (letters_of place (flight_at r)) d.1 x v0 v1 d.4 c.store.ensures.view in
    let v2 = c.tell.new.pass.seat.me.0 in let q2 = removing.to_one_told n size r counted place x v1 v2 q1 c.tell.ensures.view in
    subst (λ (p : Post HuntPart). Contains p.locks 36) (sym q2) (0, omega arith, refl)

pub free_node-requires-clause-counted : goal.free_node-requires-clause-counted
free_node-requires-clause-counted c =
    let n = c.args.pass.now.number in let v0 = c.args.pass.now.seat.me.0 in let d = c.requires.drawn in let size = d.0 in let counted = d.2 in let r = node_of c.args.root in let x = c.args.word in let place = c.args.place in
    let v1 = c.store.new.pass.seat.me.0 in let q1 = removing.to_word n size r counted (letters_of place (flight_at r)) d.1 x v0 v1 d.4 c.store.ensures.view in
    let v2 = c.tell.new.pass.seat.me.0 in let q2 = removing.to_one_told n size r counted place x v1 v2 q1 c.tell.ensures.view in
    removing.one_freeable n size r counted x v2 d.3 q2

pub free_heap-requires-clause-held : goal.free_heap-requires-clause-held
free_heap-requires-clause-held c =
    let n = c.args.pass.now.number in let v0 = c.args.pass.now.seat.me.0 in let d = c.requires.drawn in let size = d.0 in let counted = d.2 in let r = node_of c.args.root in let x = c.args.word in let place = c.args.place in
    let v1 = c.store.new.pass.seat.me.0 in let q1 = removing.to_word n size r counted (letters_of place (flight_at r)) d.1 x v0 v1 d.4 c.store.ensures.view in
    let v2 = c.tell.new.pass.seat.me.0 in let q2 = removing.to_one_told n size r counted place x v1 v2 q1 c.tell.ensures.view in
    let v3 = c.free_node.new.pass.seat.me.0 in let q3 = removing.to_unrooted n size r counted x v2 v3 q2 c.free_node.ensures.freed in
    subst (λ (p : Post HuntPart). Contains p.locks 24) (sym q3) (0, omega arith, refl)

pub free_heap-requires-clause-stored : goal.free_heap-requires-clause-stored
free_heap-requires-clause-stored c =
    let n = c.args.pass.now.number in let v0 = c.args.pass.now.seat.me.0 in let d = c.requires.drawn in let size = d.0 in let counted = d.2 in let r = node_of c.args.root in let x = c.args.word in let place = c.args.place in
    let v1 = c.store.new.pass.seat.me.0 in let q1 = removing.to_word n size r counted (letters_of place (flight_at r)) d.1 x v0 v1 d.4 c.store.ensures.view in
    let v2 = c.tell.new.pass.seat.me.0 in let q2 = removing.to_one_told n size r counted place x v1 v2 q1 c.tell.ensures.view in
    let v3 = c.free_node.new.pass.seat.me.0 in let q3 = removing.to_unrooted n size r counted x v2 v3 q2 c.free_node.ensures.freed in
    ap (λ (p : Post HuntPart). p.own.size_stored) q3 ∙ sym (ap (λ (p : Post HuntPart). p.own.size_counted) q3)

pub returns-clause-rests : goal.returns-clause-rests
returns-clause-rests c =
    let n = c.args.pass.now.number in let v0 = c.args.pass.now.seat.me.0 in let d = c.requires.drawn in let size = d.0 in let counted = d.2 in let r = node_of c.args.root in let x = c.args.word in let place = c.args.place in
    let v1 = c.store.new.pass.seat.me.0 in let q1 = removing.to_word n size r counted (letters_of place (flight_at r)) d.1 x v0 v1 d.4 c.store.ensures.view in
    let v2 = c.tell.new.pass.seat.me.0 in let q2 = removing.to_one_told n size r counted place x v1 v2 q1 c.tell.ensures.view in
    let v3 = c.free_node.new.pass.seat.me.0 in let q3 = removing.to_unrooted n size r counted x v2 v3 q2 c.free_node.ensures.freed in
    let v4 = c.free_heap.new.pass.seat.me.0 in let f = c.free_heap.ensures.freed in let q4 = f.post ∙ ap posts.without_heap q3 in
    record {
      post = q4;
      lanes = f.lanes ∙ (c.free_node.ensures.freed.lanes ∙ (ap (λ (z : View HuntPart). z.lanes) c.tell.ensures.view ∙ ap (λ (z : View HuntPart). z.lanes) c.store.ensures.view));
      front = f.front ∙ (c.free_node.ensures.freed.front ∙ (ap (λ (z : View HuntPart). z.front) c.tell.ensures.view ∙ ap (λ (z : View HuntPart). z.front) c.store.ensures.view));
    }
