use Rattle.std.proofs.Common.{ℕ, ap, sym, ◌∙◌, subst}
use Rattle.pq_seats.specs.declared.views.View.{View}
use Rattle.pq_hunt.specs.declared.nodes.Node.TheVariants.{Available}
use Rattle.pq_hunt.specs.declared.views.HuntPart.{HuntPart}
use Rattle.pq_hunt.specs.Words.{Means}
use Rattle.pq_hunt.specs.Steps.{busy_number}
use Rattle.pq_hunt.proofs.Calls.Leafing.{available_means}
use Rattle.pq_hunt.proofs.Calls.Rooting as rooting
use Rattle.pq_hunt.proofs.climb.settle_root.Goals as goal

pub draw-place-requires-clause-allowed : goal.draw-place-requires-clause-allowed
draw-place-requires-clause-allowed c = rooting.may_end c.args.pass.now.number c.args.e c.args.table.now.table.shared.key c.args.pass.now.seat.id c.args.pass.now.seat.me.0 c.requires.own.seated.0 c.requires.root

pub store-requires-clause-guarded : goal.store-requires-clause-guarded
store-requires-clause-guarded c = let n = c.args.pass.now.number in let e = c.args.e in let v0 = c.args.pass.now.seat.me.0 in let v1 = c.draw-place.new.pass.seat.me.0 in
    rooting.ended_guarded n e v1 (busy_number n e) (ap (λ (z : View HuntPart). z.post) c.draw-place.ensures.view ∙ rooting.to_ended n e c.draw-place.result v0.post c.requires.root)

pub free_node-requires-clause-counted : goal.free_node-requires-clause-counted
free_node-requires-clause-counted c = let n = c.args.pass.now.number in let e = c.args.e in let v0 = c.args.pass.now.seat.me.0 in let v1 = c.draw-place.new.pass.seat.me.0 in let v2 = c.store.new.pass.seat.me.0 in
    let q1 = ap (λ (z : View HuntPart). z.post) c.draw-place.ensures.view ∙ rooting.to_ended n e c.draw-place.result v0.post c.requires.root in
    rooting.ended_freeable n e c.pack.result v2 (subst (λ (z : ℕ). Means (Available e) z) (sym c.pack.ensures.number) (available_means e)) (rooting.to_ended_word n e c.pack.result v1 v2 q1 c.store.ensures.view)
