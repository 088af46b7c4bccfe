use Rattle.std.proofs.Common.{suc, [], ap, sym, ◌∙◌, subst}
use Rattle.std.specs.Prelude.{Contains}
use Rattle.pq_words.specs.declared.entries.Entry.{Entry}
use Rattle.pq_model.specs.declared.marks.Act.TheVariants.{Insert}
use Rattle.pq_seats.specs.declared.views.Post.{Post}
use Rattle.pq_seats.specs.Allowed.{MayDraw}
use Rattle.pq_seats.proofs.Lists.{in_first}
use Rattle.pq_spot.specs.declared.views.SpotPart.{SpotPart}
use Rattle.pq_spot.specs.Spot.{lock_word, spot_rule}
use Rattle.pq_spot.proofs.Allows.{may_place}
use Rattle.pq_spot.proofs.spot.place_own.Goals as goal

pub draw-place-requires-clause-allowed : goal.draw-place-requires-clause-allowed
draw-place-requires-clause-allowed c = let post = c.requires.post in let own = c.requires.own in let named = own.named in
    let k = c.args.table.now.table.shared.key in let id = c.args.pass.now.seat.id in let v = c.args.pass.now.seat.me.0 in
    subst (λ (e : Entry). MayDraw spot_rule k id v (Insert e) 1) (sym c.token.ensures)
    (may_place k id v (subst (λ (p : Post SpotPart). Contains p.locks lock_word) (sym post) (in_first lock_word [])) (ap (λ (p : Post SpotPart). p.own.counted) post ∙ ap suc named))
