use Rattle.std.proofs.Common.{◌≡◌, ℕ, ◌+◌, length, ap, sym, ◌∙◌, subst, arith}
use Rattle.std.specs.Prelude.{Contains}
use Rattle.pq_words.specs.declared.entries.Entry.{Entry}
use Rattle.pq_words.specs.HeapWords.{heap_number}
use Rattle.pq_model.specs.declared.passes.Known.{Known}
use Rattle.pq_model.specs.declared.marks.Reply.TheVariants as replies
use Rattle.pq_model.specs.Passes.{Knows}
use Rattle.pq_seats.specs.declared.views.Post.{Post}
use Rattle.pq_seats.specs.declared.views.View.{View}
use Rattle.pq_seats.specs.Views.{known_of}
use Rattle.pq_seats.specs.Batches.{Batch, own_place}
use Rattle.pq_hunt.specs.declared.nodes.Node.TheVariants.{Busy}
use Rattle.pq_hunt.specs.declared.views.HuntPart.{HuntPart}
use Rattle.pq_hunt.specs.Words.{node_of}
use Rattle.pq_hunt.specs.Batches.{flight_at, hunt_batch}
use Rattle.pq_hunt.proofs.Calls.Removing as removing
use Rattle.pq_hunt.proofs.remove.place_got.Goals as goal

pub draw-place-requires-clause-allowed : goal.draw-place-requires-clause-allowed
draw-place-requires-clause-allowed c =
    let n = c.args.pass.now.number in let v0 = c.args.pass.now.seat.me.0 in let own = c.requires.own in let low = own.seated.0 in let root = c.args.root in let last = c.args.last in let r = node_of root in let l = node_of last in let size = c.args.size in let act = c.args.act in
    let u = c.requires.gets.root_used in let w = c.requires.gets.last_used in let may = c.requires.gets.may in let many = c.requires.gets.many in let apart = c.requires.gets.apart in let before = c.helped-before.ensures in
    let v1 = c.store_size.new.pass.seat.me.0 in let q1 = removing.to_sized n size root last act u w may v0 v1 c.requires.gets.post c.store_size.ensures.view in
    let after = c.helped.ensures in removing.may_take n size root last act u w may c.args.table.now.table.shared.key c.store_size.new.pass.seat.id v1 (1 + c.helped-before.result + c.helped.result) low many q1 (omega (arith, before, after))

pub store-requires-clause-guarded : goal.store-requires-clause-guarded
store-requires-clause-guarded c =
    let n = c.args.pass.now.number in let v0 = c.args.pass.now.seat.me.0 in let own = c.requires.own in let low = own.seated.0 in let root = c.args.root in let last = c.args.last in let r = node_of root in let l = node_of last in let size = c.args.size in let act = c.args.act in
    let u = c.requires.gets.root_used in let w = c.requires.gets.last_used in let may = c.requires.gets.may in let many = c.requires.gets.many in let apart = c.requires.gets.apart in let before = c.helped-before.ensures in
    let v1 = c.store_size.new.pass.seat.me.0 in let q1 = removing.to_sized n size root last act u w may v0 v1 c.requires.gets.post c.store_size.ensures.view in
    let place = c.draw-place.result in let v2 = c.draw-place.new.pass.seat.me.0 in let drew = c.draw-place.ensures.view in let q2 = ap (λ (z : View HuntPart). z.post) drew ∙ removing.to_drawn n size root last act u w may place v1.post q1 in
    removing.drawn_guarded n size root last act u w may (removing.letters place r l) (heap_number last) v2 q2

pub tell-requires-clause-owed : goal.tell-requires-clause-owed
tell-requires-clause-owed c =
    let n = c.args.pass.now.number in let v0 = c.args.pass.now.seat.me.0 in let own = c.requires.own in let low = own.seated.0 in let root = c.args.root in let last = c.args.last in let r = node_of root in let l = node_of last in let size = c.args.size in let act = c.args.act in
    let u = c.requires.gets.root_used in let w = c.requires.gets.last_used in let may = c.requires.gets.may in let many = c.requires.gets.many in let apart = c.requires.gets.apart in let before = c.helped-before.ensures in
    let v1 = c.store_size.new.pass.seat.me.0 in let q1 = removing.to_sized n size root last act u w may v0 v1 c.requires.gets.post c.store_size.ensures.view in
    let place = c.draw-place.result in let v2 = c.draw-place.new.pass.seat.me.0 in let drew = c.draw-place.ensures.view in let q2 = ap (λ (z : View HuntPart). z.post) drew ∙ removing.to_drawn n size root last act u w may place v1.post q1 in
    let v3 = c.store.new.pass.seat.me.0 in let q3 = removing.to_emptied n size root last act u w may many (removing.letters place r l) (heap_number last) 0 v2 v3 q2 c.store.ensures.view in
    removing.owes_root n size root last act u w may place v3 q3

pub tell-requires-2-clause-owed : goal.tell-requires-2-clause-owed
tell-requires-2-clause-owed c =
    let n = c.args.pass.now.number in let v0 = c.args.pass.now.seat.me.0 in let own = c.requires.own in let low = own.seated.0 in let root = c.args.root in let last = c.args.last in let r = node_of root in let l = node_of last in let size = c.args.size in let act = c.args.act in
    let u = c.requires.gets.root_used in let w = c.requires.gets.last_used in let may = c.requires.gets.may in let many = c.requires.gets.many in let apart = c.requires.gets.apart in let before = c.helped-before.ensures in
    let v1 = c.store_size.new.pass.seat.me.0 in let q1 = removing.to_sized n size root last act u w may v0 v1 c.requires.gets.post c.store_size.ensures.view in
    let place = c.draw-place.result in let v2 = c.draw-place.new.pass.seat.me.0 in let drew = c.draw-place.ensures.view in let q2 = ap (λ (z : View HuntPart). z.post) drew ∙ removing.to_drawn n size root last act u w may place v1.post q1 in
    let v3 = c.store.new.pass.seat.me.0 in let q3 = removing.to_emptied n size root last act u w may many (removing.letters place r l) (heap_number last) 0 v2 v3 q2 c.store.ensures.view in
    let is_b = removing.got_batch n size root last act u w may v1.post q1 in let small = c.store.ensures.small in let far : v2.front ≡ place + length (flight_at r) + 1 = ap (λ (z : View HuntPart). z.front) drew ∙ ap (λ (z : Batch). own_place place z + 1) is_b in
    let v4 = c.tell.new.pass.seat.me.0 in let q4 = removing.to_told n size root last act u w may place v3 v4 apart q3 c.tell.ensures.view in
    subst (λ (z : ℕ). (o : ℕ) (e : Entry) → l ≡ Busy o e → Contains v4.post.owed (o, place + z + 1 + 1)) (sym before) (removing.owes_end n size root last act u w may (place + length (flight_at r) + 1) v4 q4)

pub returns-clause-placed : goal.returns-clause-placed
returns-clause-placed c =
    let n = c.args.pass.now.number in let v0 = c.args.pass.now.seat.me.0 in let own = c.requires.own in let low = own.seated.0 in let root = c.args.root in let last = c.args.last in let r = node_of root in let l = node_of last in let size = c.args.size in let act = c.args.act in
    let u = c.requires.gets.root_used in let w = c.requires.gets.last_used in let may = c.requires.gets.may in let many = c.requires.gets.many in let apart = c.requires.gets.apart in let before = c.helped-before.ensures in
    let v1 = c.store_size.new.pass.seat.me.0 in let q1 = removing.to_sized n size root last act u w may v0 v1 c.requires.gets.post c.store_size.ensures.view in
    let place = c.draw-place.result in let v2 = c.draw-place.new.pass.seat.me.0 in let drew = c.draw-place.ensures.view in let q2 = ap (λ (z : View HuntPart). z.post) drew ∙ removing.to_drawn n size root last act u w may place v1.post q1 in
    let v3 = c.store.new.pass.seat.me.0 in let q3 = removing.to_emptied n size root last act u w may many (removing.letters place r l) (heap_number last) 0 v2 v3 q2 c.store.ensures.view in
    let is_b = removing.got_batch n size root last act u w may v1.post q1 in let small = c.store.ensures.small in let far : v2.front ≡ place + length (flight_at r) + 1 = ap (λ (z : View HuntPart). z.front) drew ∙ ap (λ (z : Batch). own_place place z + 1) is_b in
    let v4 = c.tell.new.pass.seat.me.0 in let q4 = removing.to_told n size root last act u w may place v3 v4 apart q3 c.tell.ensures.view in
    let v5 = c.tell-2.new.pass.seat.me.0 in let q5 = removing.to_all_told n size root last act u w may (place + length (flight_at r) + 1) v4 v5 q4 c.tell-2.ensures.view in
    let same1 = removing.same_known v0 v1 (ap (λ (p : Post HuntPart). p.number) q1 ∙ sym (ap (λ (p : Post HuntPart). p.number) c.requires.gets.post)) (ap (λ (z : View HuntPart). z.lanes) c.store_size.ensures.view) (ap (λ (z : View HuntPart). z.front) c.store_size.ensures.view) in
    let same = removing.same_known v2 v5 (ap (λ (p : Post HuntPart). p.number) q5 ∙ sym (ap (λ (p : Post HuntPart). p.number) q2))
    (ap (λ (z : View HuntPart). z.lanes) c.tell-2.ensures.view ∙ (ap (λ (z : View HuntPart). z.lanes) c.tell.ensures.view ∙ ap (λ (z : View HuntPart). z.lanes) c.store.ensures.view))
    (ap (λ (z : View HuntPart). z.front) c.tell-2.ensures.view ∙ (ap (λ (z : View HuntPart). z.front) c.tell.ensures.view ∙ ap (λ (z : View HuntPart). z.front) c.store.ensures.view)) in
    record {
      placed = q5;
      call = removing.makes (known_of v1) (known_of v0) (known_of v2) (known_of v5) act (hunt_batch v1.post.own act) (record { before = flight_at r; reply = replies.Got root.entry; after = flight_at l }) place (place + c.helped-before.result) same1 (sym same) is_b (omega (arith, before)) c.draw-place.ensures.call;
      knows = subst (λ (k : Known). Knows c.args.table.now.table.shared.key.seats c.args.table.now.table.shared.key.capacity k) (sym same) c.draw-place.ensures.knows;
    }
