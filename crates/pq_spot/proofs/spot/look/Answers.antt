use Rattle.std.proofs.Common.{arith}
use Rattle.pq_spot.proofs.Allows.{may_look}
use Rattle.pq_spot.proofs.spot.look.Goals as goal

pub load-requires : goal.load-requires
load-requires c =
    let k = c.args.table.now.table.shared.key in let me = c.args.pass.now.seat.me in let id = c.args.pass.now.seat.id in let own = c.requires.own in let slots = c.args.table.now.table.shared.table_id.slots in
    let size = c.args.table.now.sized.0 in let wide = c.requires.wide in
    (own.table, omega arith, may_look k slots id me c.requires.held)
