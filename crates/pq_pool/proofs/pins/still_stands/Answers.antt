use Rattle.std.proofs.Common.{arith}
use Rattle.pq_pool.proofs.Allowing.{may_look}
use Rattle.pq_pool.proofs.pins.still_stands.Goals as goal

pub load-requires : goal.load-requires
load-requires g c =
    let R = g.R.SeatRule.rule in let P = g.R.PoolRule.pool in let laws = g.met.R.PoolRule.pool_laws in let B = g.R.PoolRule.BUILDER in let lawful = g.R.SeatRule.lawful in
    let k = c.args.shared.now.table.shared.key in let z = c.args.shared.now.table.shared.table_id in let seat = c.args.pass.now.seat in
    let long = c.args.shared.now.sized.0 in let key = c.args.shared.now.sized.1 in let sits = c.requires.own in let is = sits.named in let low = sits.seated.0 in let wide = c.args.shared.now.wide in
    (sits.table, omega arith, may_look R lawful P B laws k z.slots seat.id seat.me (omega arith) c.requires.pinned)
