use Rattle.std.proofs.Common.{[], ap, sym, subst}
use Rattle.std.specs.Prelude.{Contains}
use Rattle.pq_seats.specs.declared.views.Post.{Post}
use Rattle.pq_seats.proofs.Lists.{in_first}
use Rattle.pq_spot.specs.declared.views.SpotPart.{SpotPart}
use Rattle.pq_spot.specs.Spot.{lock_word}
use Rattle.pq_spot.proofs.Allows.{may_find_none}
use Rattle.pq_spot.proofs.spot.take_none.Goals as goal

pub draw-place-requires-clause-allowed : goal.draw-place-requires-clause-allowed
draw-place-requires-clause-allowed c = let post = c.requires.post in let own = c.requires.own in let named = own.named in
    may_find_none c.args.table.now.table.shared.key c.args.pass.now.seat.id c.args.pass.now.seat.me.0 (subst (λ (p : Post SpotPart). Contains p.locks lock_word) (sym post) (in_first lock_word []))
    (ap (λ (p : Post SpotPart). p.flight) post) (ap (λ (p : Post SpotPart). p.own.counted) post)
