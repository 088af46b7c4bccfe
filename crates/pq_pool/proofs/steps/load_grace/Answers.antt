use Rattle.std.proofs.Common.{arith}
use Rattle.pq_pool.proofs.Allowing.{may_load_grace}
use Rattle.pq_pool.proofs.steps.load_grace.Goals as goal

pub load-requires : goal.load-requires
load-requires g c =
    let R = g.R.SeatRule.rule in let P = g.R.PoolRule.pool in let laws = g.met.R.PoolRule.pool_laws in let B = g.R.PoolRule.BUILDER in let lawful = g.R.SeatRule.lawful in
    let k = c.args.shared.now.table.shared.key in let z = c.args.shared.now.table.shared.table_id in let seat = c.args.pass.now.seat in
    let long = c.args.shared.now.sized.0 in let key = c.args.shared.now.sized.1 in let at = c.requires.builder in let room = at.all.chunks.room in
    let seats = c.args.shared.now.seated.0 in let few = c.args.shared.now.seated.1.1 in let low = c.requires.seat.0 in let high = c.requires.seat.1 in
    (at.sits.table, omega arith, may_load_grace R lawful P B laws k z.slots seat.id seat.me at.holds c.args.seat (low, omega arith))
