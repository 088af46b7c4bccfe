use Rattle.std.proofs.Common.{◌-◌, suc, [], arith, ap, ◌∙◌, sym, subst}
use Rattle.std.specs.Prelude.{Contains}
use Rattle.pq_seats.specs.declared.views.Post.{Post}
use Rattle.pq_seats.proofs.Lists.{in_first}
use Rattle.pq_spot.specs.declared.views.SpotPart.{SpotPart}
use Rattle.pq_spot.specs.Spot.{lock_word}
use Rattle.pq_spot.proofs.Steps.{may_accept}
use Rattle.pq_spot.proofs.helps.place_offered.Goals as goal

pub fetch_add-requires : goal.fetch_add-requires
fetch_add-requires c =
    let k = c.args.table.now.table.shared.key in let me = c.args.pass.now.seat.me in let id = c.args.pass.now.seat.id in let own = c.requires.own in let slots = c.args.table.now.table.shared.table_id.slots in
    let size = c.args.table.now.sized.0 in let wide = c.requires.wide in let post = c.requires.post in (
      own.table,
      omega arith,
      may_accept k slots id me (subst (λ (p : Post SpotPart). Contains p.locks lock_word) (sym post) (in_first lock_word [])) c.helping_steps_keep.ensures (c.args.owner - 1)
          (ap (λ (p : Post SpotPart). p.own.counted) post ∙ ap suc (let low = c.requires.owner.0 in omega arith)),
    )
