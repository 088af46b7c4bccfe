use Rattle.std.proofs.Common.{ap, sym, refl, subst, arith}
use Rattle.std.specs.Prelude.{Contains}
use Rattle.pq_seats.specs.declared.views.Post.{Post}
use Rattle.pq_mound.specs.declared.views.MoundPart.{MoundPart}
use Rattle.pq_mound.proofs.MayDraw.{may_refuse}
use Rattle.pq_mound.proofs.insert.refuse.Goals as goal

pub draw-place-requires-clause-allowed : goal.draw-place-requires-clause-allowed
draw-place-requires-clause-allowed c =
    let q = c.requires.begun in let own = c.requires.own in let seated = own.seated.0 in let named = own.named in
    may_refuse c.args.table.now.table.shared.key c.args.pass.now.seat.id c.args.pass.now.seat.me.0
    (omega arith) c.args.e
    (subst (λ (p : Post MoundPart). Contains p.locks 24) (sym q) (0, omega arith, refl))
    (ap (λ (p : Post MoundPart). p.own.free) q) (ap (λ (p : Post MoundPart). p.own.held) q)
