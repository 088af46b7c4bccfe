use Rattle.std.proofs.Common.{ℕ, ◌+◌, arith, subst, sym}
use mathlib.Core.Option.{none}
use Rattle.atomic_table.specs.Table.{step, Allows}
use Rattle.pq_seats.specs.Rules.{Holds}
use Rattle.pq_pool.specs.Steps.{pins}
use Rattle.pq_pool.proofs.Allowing.{may_pin}
use Rattle.pq_pool.proofs.pins.pin.Goals as goal

pub store-requires : goal.store-requires
store-requires g c =
    let R = g.R.SeatRule.rule in let P = g.R.PoolRule.pool in let laws = g.met.R.PoolRule.pool_laws in let B = g.R.PoolRule.BUILDER in let lawful = g.R.SeatRule.lawful in
    let k = c.args.shared.now.table.shared.key in let z = c.args.shared.now.table.shared.table_id in let seat = c.args.pass.now.seat in
    let long = c.args.shared.now.sized.0 in let key = c.args.shared.now.sized.1 in let sits = c.requires.own in let is = sits.named in let low = sits.seated.0 in let high = sits.seated.1 in
    let seats = c.args.shared.now.seated.0 in let few = c.args.shared.now.seated.1.1 in let wide = c.requires.wide in (
      sits.table,
      omega arith,
      subst (λ (n : ℕ). Allows (Holds R k) z.slots seat.id seat.me (17 + n) (λ _. 1) (λ _. pins R P (step z.slots (17 + n) 1 0 none) seat.me 1)) (sym is) (may_pin R lawful P B laws k z.slots seat.id seat.me (omega arith) c.requires.no_lock),
    )
