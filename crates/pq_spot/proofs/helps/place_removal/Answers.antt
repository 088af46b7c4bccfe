use Rattle.std.proofs.Common.{arith}
use Rattle.pq_spot.proofs.Steps.{may_remove}
use Rattle.pq_spot.proofs.helps.place_removal.Goals as goal

pub fetch_add-requires : goal.fetch_add-requires
fetch_add-requires c =
    let k = c.args.table.now.table.shared.key in let me = c.args.pass.now.seat.me in let id = c.args.pass.now.seat.id in let own = c.requires.own in let slots = c.args.table.now.table.shared.table_id.slots in
    let size = c.args.table.now.sized.0 in let wide = c.requires.wide in
    (own.table, omega arith, may_remove k slots id me c.requires.held c.placing_steps_keep.ensures c.requires.quiet c.requires.few)
