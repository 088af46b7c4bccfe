use Rattle.std.proofs.Common.{arith}
use Rattle.pq_pool.specs.Parts.{pool_view}
use Rattle.pq_pool.specs.Views.{moved}
use Rattle.pq_pool.proofs.Allowing.{may_move}
use Rattle.pq_pool.proofs.PassLemmas.{builder_stays, names_moved}
use Rattle.pq_pool.proofs.steps.move_to.Goals as goal

pub store-requires : goal.store-requires
store-requires g c =
    let R = g.R.SeatRule.rule in let P = g.R.PoolRule.pool in let laws = g.met.R.PoolRule.pool_laws in let B = g.R.PoolRule.BUILDER in let lawful = g.R.SeatRule.lawful in
    let k = c.args.shared.now.table.shared.key in let z = c.args.shared.now.table.shared.table_id in let seat = c.args.pass.now.seat in
    let long = c.args.shared.now.sized.0 in let key = c.args.shared.now.sized.1 in let at = c.requires.builder in let room = at.all.chunks.room in
    let lt = c.requires.chunk in let states = at.all.stored.states in
    (at.sits.table, omega arith, may_move R lawful P B laws k z.slots seat.id seat.me at.holds c.args.chunk c.args.state c.requires.allowed)

pub returns-clause-same : goal.returns-clause-same
returns-clause-same g c =
    let R = g.R.SeatRule.rule in let P = g.R.PoolRule.pool in let laws = g.met.R.PoolRule.pool_laws in let B = g.R.PoolRule.BUILDER in let lawful = g.R.SeatRule.lawful in
    let k = c.args.shared.now.table.shared.key in let z = c.args.shared.now.table.shared.table_id in let seat = c.args.pass.now.seat in
    let long = c.args.shared.now.sized.0 in let key = c.args.shared.now.sized.1 in let at = c.requires.builder in let e = c.store.ensures in
    let v = pool_view P seat.me.0 in
    builder_stays P z k c.args.pass.now.number c.args.pass.now.lanes seat c.store.new.seat (moved v e.2.0 c.args.state) e.0 e.1 e.2.2 (laws.reads _ _) at (names_moved k v at.all e.2.0 c.args.state)
