use Rattle.std.proofs.Common.{arith}
use Rattle.pq_spot.proofs.Steps.{may_glance}
use Rattle.pq_spot.proofs.helps.glance.Goals as goal

pub load-requires : goal.load-requires
load-requires c =
    let k = c.args.table.now.table.shared.key in let me = c.args.pass.now.seat.me in let id = c.args.pass.now.seat.id in let own = c.requires.own in let slots = c.args.table.now.table.shared.table_id.slots in
    let size = c.args.table.now.sized.0 in let wide = c.args.table.now.wide in let low = own.seated.0 in let named = own.named in
    (own.table, omega arith, may_glance k c.silent_steps_keep.ensures slots id me (λ z. omega arith))
