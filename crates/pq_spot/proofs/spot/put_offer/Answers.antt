use Rattle.std.proofs.Common.{◌+◌, arith}
use Rattle.pq_spot.proofs.Allows.{may_offer}
use Rattle.pq_spot.proofs.spot.put_offer.Goals as goal

pub store-requires : goal.store-requires
store-requires c =
    let k = c.args.table.now.table.shared.key in let me = c.args.pass.now.seat.me in let id = c.args.pass.now.seat.id in let own = c.requires.own in let slots = c.args.table.now.table.shared.table_id.slots in
    let size = c.args.table.now.sized.0 in let wide = c.requires.wide in
    let named = own.named in let word = c.from-word.ensures in
    (own.table, omega arith, may_offer k slots id me c.requires.held (c.from-word.result + 1) (omega arith) c.requires.free.0 c.requires.free.1 c.requires.room)
