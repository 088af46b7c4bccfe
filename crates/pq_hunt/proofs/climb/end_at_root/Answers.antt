use Rattle.std.proofs.Common.{◌≡◌, ◌∷◌, [], ℕ, ap, sym, refl, ◌∙◌, subst}
use Rattle.pq_seats.specs.declared.views.View.{View}
use Rattle.pq_seats.specs.declared.views.Post.{Post}
use Rattle.pq_hunt.specs.declared.nodes.Node.TheVariants.{Busy}
use Rattle.pq_hunt.specs.declared.views.HuntPart.{HuntPart}
use Rattle.pq_nodes.specs.Views.{guard}
use Rattle.pq_hunt.specs.Steps.{busy_number}
use Rattle.pq_hunt.specs.HeldPosts.{guarding_flight}
use Rattle.pq_hunt.proofs.Calls.Sitting.{within}
use Rattle.pq_hunt.proofs.Calls.Rooting as rooting
use Rattle.pq_hunt.proofs.climb.end_at_root.Goals as goal

pub find_at_root-requires-clause-find : goal.find_at_root-requires-clause-find
find_at_root-requires-clause-find g c = let n = c.args.pass.now.number in let e = c.args.e in let t = c.take_node.ensures.took in
    let v0 = c.args.pass.now.seat.me.0 in let v1 = c.take_node.new.pass.seat.me.0 in
    rooting.find_root n e t.0 t.1 v1 t.2 (rooting.to_root n e t.0 t.1 v0 v1 c.requires.flies t.3)

pub settle_root-requires-clause-root : goal.settle_root-requires-clause-root
settle_root-requires-clause-root g c = let n = c.args.pass.now.number in let e = c.args.e in let t = c.take_node.ensures.took in let own = c.requires.own in let positive = own.seated.0 in
    let v0 = c.args.pass.now.seat.me.0 in let v1 = c.take_node.new.pass.seat.me.0 in let v2 = c.find_at_root.new.pass.seat.me.0 in
    let q1 = rooting.to_root n e t.0 t.1 v0 v1 c.requires.flies t.3 in
    let here : c.find_at_root.result ≡ c.args.mine = c.if-find_at_root-mine.true in
    let found = c.find_at_root.ensures.found e (ap (λ (p : Post HuntPart). p.flight) q1) in
    let same : v2 ≡ v1 = found.0 (here ∙ (c.requires.mine ∙ ap (λ (z : ℕ). busy_number z e) (sym c.take_node.ensures.stays.same.0))) in
    let word = sym here ∙ c.find_at_root.ensures.word (rooting.root n e t.0 t.1) (rooting.root_has n e t.0 t.1 v1 q1) refl in
    subst (λ (z : ℕ). v2.post ≡ guarding_flight z e 1 (guard 1 (busy_number z e) (Busy z e) ∷ [])) (sym (c.find_at_root.ensures.stays.same.0 ∙ c.take_node.ensures.stays.same.0))
    (rooting.root_mine n e t.0 t.1 v2 c.args.mine positive (within c.args.table.now n own) t.2 word c.requires.mine (ap (λ (z : View HuntPart). z.post) same ∙ q1))

pub free_node-requires-clause-counted : goal.free_node-requires-clause-counted
free_node-requires-clause-counted g c = let n = c.args.pass.now.number in let e = c.args.e in let t = c.take_node.ensures.took in
    let v0 = c.args.pass.now.seat.me.0 in let v1 = c.take_node.new.pass.seat.me.0 in let v2 = c.find_at_root.new.pass.seat.me.0 in
    let q1 = rooting.to_root n e t.0 t.1 v0 v1 c.requires.flies t.3 in
    let found = c.find_at_root.ensures.found e (ap (λ (p : Post HuntPart). p.flight) q1) in
    let is = found.1 (λ q. c.if-find_at_root-mine.false (q ∙ (ap (λ (z : ℕ). busy_number z e) c.take_node.ensures.stays.same.0 ∙ sym c.requires.mine))) in
    rooting.root_freeable n e t.0 t.1 v1 v2 t.2 q1 is
