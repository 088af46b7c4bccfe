use Rattle.std.proofs.Common.{ℕ, ◌+◌, ◌-◌, arith}
use Rattle.pq_pool.specs.Parts.{pool_view}
use Rattle.pq_pool.specs.Views.{pin_loaded}
use Rattle.pq_pool.proofs.Allowing.{may_load_pin}
use Rattle.pq_pool.proofs.PassLemmas.{builder_stays, names_pin_loaded}
use Rattle.pq_pool.proofs.steps.load_pin.Goals as goal

pub load-requires : goal.load-requires
load-requires g c =
    let R = g.R.SeatRule.rule in let P = g.R.PoolRule.pool in let laws = g.met.R.PoolRule.pool_laws in let B = g.R.PoolRule.BUILDER in let lawful = g.R.SeatRule.lawful in
    let k = c.args.shared.now.table.shared.key in let z = c.args.shared.now.table.shared.table_id in let seat = c.args.pass.now.seat in
    let long = c.args.shared.now.sized.0 in let key = c.args.shared.now.sized.1 in let at = c.requires.builder in let room = at.all.chunks.room in
    let seats = c.args.shared.now.seated.0 in let few = c.args.shared.now.seated.1.1 in let low = c.requires.seat.0 in let high = c.requires.seat.1 in
    (at.sits.table, omega arith, may_load_pin R lawful P B laws k z.slots seat.id seat.me at.holds c.args.seat (low, omega arith))

pub returns-clause-same : goal.returns-clause-same
returns-clause-same g c =
    let R = g.R.SeatRule.rule in let P = g.R.PoolRule.pool in let laws = g.met.R.PoolRule.pool_laws in let B = g.R.PoolRule.BUILDER in let lawful = g.R.SeatRule.lawful in
    let k = c.args.shared.now.table.shared.key in let z = c.args.shared.now.table.shared.table_id in let seat = c.args.pass.now.seat in
    let long = c.args.shared.now.sized.0 in let key = c.args.shared.now.sized.1 in let at = c.requires.builder in let e = c.load.ensures in
    let v = pool_view P seat.me.0 in let n : ℕ = 17 + c.args.seat - 17 in
    builder_stays P z k c.args.pass.now.number c.args.pass.now.lanes seat c.load.new.seat (pin_loaded v n c.load.result) e.0 e.1 e.2.0 (laws.reads _ _) at (names_pin_loaded k v at.all n c.load.result)
