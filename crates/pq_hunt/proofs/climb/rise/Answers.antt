use Rattle.std.proofs.Common.{◌≢◌, ℕ, ap, sym, ◌∙◌, subst, arith}
use Rattle.pq_seats.specs.declared.views.View.{View}
use Rattle.pq_hunt.specs.declared.nodes.Node.TheVariants.{Busy}
use Rattle.pq_hunt.specs.declared.views.HuntPart.{HuntPart}
use Rattle.pq_hunt.specs.Words.{Means}
use Rattle.pq_hunt.proofs.Calls.Sitting.{within}
use Rattle.pq_hunt.proofs.Calls.Leafing.{busy_means}
use Rattle.pq_hunt.proofs.Calls.Pairs as pairs
use Rattle.pq_hunt.proofs.climb.rise.Goals as goal

pub climb_to-requires-clause-climb : goal.climb_to-requires-clause-climb
climb_to-requires-clause-climb c = let p = c.requires.pair in
    pairs.can_climb c.args.pass.now.number c.args.parent c.args.child c.args.above c.args.mine c.args.e p.0.other c.args.pass.now.seat.me.0 p.0.post (sym c.requires.nodes.0) p.1

pub store-requires-clause-guarded : goal.store-requires-clause-guarded
store-requires-clause-guarded c = let p = c.requires.pair in let n = c.args.pass.now.number in let o = p.0.other in
    let v0 = c.args.pass.now.seat.me.0 in let v1 = c.climb_to.new.pass.seat.me.0 in
    pairs.second_guarded n c.args.parent c.args.child c.args.above c.args.mine c.args.e o v1 (pairs.to_risen n c.args.parent c.args.child c.args.above c.args.mine c.args.e o v0 v1 p.0.post c.climb_to.ensures.view)

pub free_two-requires-clause-held : goal.free_two-requires-clause-held
free_two-requires-clause-held c = let p = c.requires.pair in let n = c.args.pass.now.number in let o = p.0.other in let a = c.args.above in let m = c.args.mine in let e = c.args.e in let up = c.args.parent in let down = c.args.child in
    let half = c.requires.nodes.0 in let low = c.requires.nodes.1 in let own = c.requires.own in let positive = own.seated.0 in
    let differ : up ≢ down = (λ q. omega arith) in
    let v0 = c.args.pass.now.seat.me.0 in let v1 = c.climb_to.new.pass.seat.me.0 in let v2 = c.store.new.pass.seat.me.0 in
    let q1 = pairs.to_risen n up down a m e o v0 v1 p.0.post c.climb_to.ensures.view in
    let q2 = pairs.to_lowered n up down a m e o v1 v2 differ q1 c.store.ensures.view in
    pairs.lowered_held n up down a m e o v2 differ (subst (λ (z : ℕ). Means (Busy n e) z) (sym c.requires.mine) (busy_means n e positive (within c.args.table.now n own))) p.0.means q2

pub returns-clause-flies : goal.returns-clause-flies
returns-clause-flies c = let p = c.requires.pair in let n = c.args.pass.now.number in let o = p.0.other in let a = c.args.above in let m = c.args.mine in let e = c.args.e in let up = c.args.parent in let down = c.args.child in
    let half = c.requires.nodes.0 in let low = c.requires.nodes.1 in
    let differ : up ≢ down = (λ q. omega arith) in
    let v0 = c.args.pass.now.seat.me.0 in let v1 = c.climb_to.new.pass.seat.me.0 in let v2 = c.store.new.pass.seat.me.0 in let v3 = c.free_two.new.pass.seat.me.0 in
    let q1 = pairs.to_risen n up down a m e o v0 v1 p.0.post c.climb_to.ensures.view in
    let q2 = pairs.to_lowered n up down a m e o v1 v2 differ q1 c.store.ensures.view in
    let f = c.free_two.ensures.freed in record {
      post = pairs.to_parent n up down a m e o v2 v3 differ q2 f;
      lanes = f.lanes ∙ (ap (λ (z : View HuntPart). z.lanes) c.store.ensures.view ∙ ap (λ (z : View HuntPart). z.lanes) c.climb_to.ensures.view);
      front = f.front ∙ (ap (λ (z : View HuntPart). z.front) c.store.ensures.view ∙ ap (λ (z : View HuntPart). z.front) c.climb_to.ensures.view);
    }
