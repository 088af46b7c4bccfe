use Rattle.std.proofs.Common.{◌≢◌, ℕ, ap, sym, ◌∙◌, subst, arith}
use Rattle.pq_seats.specs.declared.views.View.{View}
use Rattle.pq_hunt.specs.declared.nodes.Node.TheVariants.{Available}
use Rattle.pq_hunt.specs.declared.views.HuntPart.{HuntPart}
use Rattle.pq_hunt.specs.Words.{Means}
use Rattle.pq_hunt.specs.Steps.{busy_number}
use Rattle.pq_hunt.proofs.Calls.Leafing.{available_means}
use Rattle.pq_hunt.proofs.Calls.Pairs as pairs
use Rattle.pq_hunt.proofs.climb.settle.Goals as goal

pub draw-place-requires-clause-allowed : goal.draw-place-requires-clause-allowed
draw-place-requires-clause-allowed c = let r = c.requires.pair in let p = r.1 in let own = c.requires.own in let n = c.args.pass.now.number in
    pairs.may_settle n c.args.parent c.args.child r.0 (busy_number n c.args.e) c.args.e p.other c.args.table.now.table.shared.key c.args.pass.now.seat.id c.args.pass.now.seat.me.0 own.seated.0 p.post (sym c.requires.nodes.0) r.2

pub store-requires-clause-guarded : goal.store-requires-clause-guarded
store-requires-clause-guarded c = let r = c.requires.pair in let p = r.1 in let n = c.args.pass.now.number in let e = c.args.e in let up = c.args.parent in let down = c.args.child in let m = busy_number n e in
    let v0 = c.args.pass.now.seat.me.0 in let v1 = c.draw-place.new.pass.seat.me.0 in
    pairs.done_guarded n up down r.0 m e p.other v1 (ap (λ (z : View HuntPart). z.post) c.draw-place.ensures.view ∙ pairs.to_done n up down r.0 m e p.other c.draw-place.result v0.post p.post)

pub free_two-requires-clause-held : goal.free_two-requires-clause-held
free_two-requires-clause-held c = let r = c.requires.pair in let p = r.1 in let n = c.args.pass.now.number in let e = c.args.e in let up = c.args.parent in let down = c.args.child in let m = busy_number n e in
    let half = c.requires.nodes.0 in let low = c.requires.nodes.1 in let x = c.pack.result in
    let differ : up ≢ down = (λ q. omega arith) in
    let v0 = c.args.pass.now.seat.me.0 in let v1 = c.draw-place.new.pass.seat.me.0 in let v2 = c.store.new.pass.seat.me.0 in
    let q1 = ap (λ (z : View HuntPart). z.post) c.draw-place.ensures.view ∙ pairs.to_done n up down r.0 m e p.other c.draw-place.result v0.post p.post in
    let q2 = pairs.to_stored n up down r.0 m e p.other x v1 v2 differ q1 c.store.ensures.view in
    pairs.done_held n up down r.0 m e p.other x v2 differ p.means (subst (λ (z : ℕ). Means (Available e) z) (sym c.pack.ensures.number) (available_means e)) q2

pub returns-clause-rests : goal.returns-clause-rests
returns-clause-rests c = let r = c.requires.pair in let p = r.1 in let n = c.args.pass.now.number in let e = c.args.e in let up = c.args.parent in let down = c.args.child in let m = busy_number n e in
    let half = c.requires.nodes.0 in let low = c.requires.nodes.1 in let x = c.pack.result in
    let differ : up ≢ down = (λ q. omega arith) in
    let v0 = c.args.pass.now.seat.me.0 in let v1 = c.draw-place.new.pass.seat.me.0 in let v2 = c.store.new.pass.seat.me.0 in let v3 = c.free_two.new.pass.seat.me.0 in
    let q1 = ap (λ (z : View HuntPart). z.post) c.draw-place.ensures.view ∙ pairs.to_done n up down r.0 m e p.other c.draw-place.result v0.post p.post in
    let q2 = pairs.to_stored n up down r.0 m e p.other x v1 v2 differ q1 c.store.ensures.view in
    pairs.to_rest n up down r.0 m e p.other x v2 v3 differ q2 c.free_two.ensures.freed
