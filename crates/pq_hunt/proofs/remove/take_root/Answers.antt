use Rattle.std.proofs.Common.{ap, sym, refl, ◌∙◌}
use Rattle.pq_seats.specs.declared.views.View.{View}
use Rattle.pq_hunt.specs.declared.views.HuntPart.{HuntPart}
use Rattle.pq_hunt.specs.Nodes.{used}
use Rattle.pq_hunt.proofs.Heap.Meanings.{unpacked_node}
use Rattle.pq_hunt.proofs.Calls.Removing as removing
use Rattle.pq_hunt.proofs.remove.take_root.Goals as goal

pub unpack-requires : goal.unpack-requires
unpack-requires g c =
    let n = c.args.pass.now.number in let size = c.args.size in let t = c.take_node.ensures.took in let v0 = c.args.pass.now.seat.me.0 in let v1 = c.take_node.new.pass.seat.me.0 in let v2 = c.look.new.pass.seat.me.0 in
    let q1 = removing.to_root n size t.0 t.1 v0 v1 c.requires.begun t.3 in
    let is = c.look.ensures.word (removing.root n size t.0 t.1) (removing.root_has n size t.0 t.1 v1 q1) refl in
    record { packed = (t.2.packed, t.2.fits, t.2.number ∙ sym is) }

pub returns-clause-used : goal.returns-clause-used
returns-clause-used g c =
    let n = c.args.pass.now.number in let size = c.args.size in let t = c.take_node.ensures.took in let v0 = c.args.pass.now.seat.me.0 in let v1 = c.take_node.new.pass.seat.me.0 in let v2 = c.look.new.pass.seat.me.0 in
    let q1 = removing.to_root n size t.0 t.1 v0 v1 c.requires.begun t.3 in let w = c.unpack.result in
    let is = c.look.ensures.word (removing.root n size t.0 t.1) (removing.root_has n size t.0 t.1 v1 q1) refl in
    removing.used_word w c.unpack.ensures.fits (ap used (unpacked_node w t.0 t.1 c.unpack.ensures.fits (c.unpack.ensures.number ∙ is) t.2) ∙ removing.root_used n size t.0 t.1 v1 c.requires.size q1 c.look.ensures.shown.1)

pub returns-clause-took : goal.returns-clause-took
returns-clause-took g c =
    let n = c.args.pass.now.number in let size = c.args.size in let t = c.take_node.ensures.took in let v0 = c.args.pass.now.seat.me.0 in let v1 = c.take_node.new.pass.seat.me.0 in let v2 = c.look.new.pass.seat.me.0 in
    let q1 = removing.to_root n size t.0 t.1 v0 v1 c.requires.begun t.3 in let w = c.unpack.result in
    let is = c.look.ensures.word (removing.root n size t.0 t.1) (removing.root_has n size t.0 t.1 v1 q1) refl in let same = c.look.ensures.view in record {
      post = removing.read_root n size t.0 t.1 w v1 v2 t.2 c.unpack.ensures.fits (c.unpack.ensures.number ∙ is) q1 (ap (λ (z : View HuntPart). z.post) same);
      lanes = ap (λ (z : View HuntPart). z.lanes) same ∙ t.3.lanes;
      front = ap (λ (z : View HuntPart). z.front) same ∙ t.3.front;
    }
