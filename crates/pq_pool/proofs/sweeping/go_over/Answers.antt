use Rattle.std.proofs.Common.{◌≡◌, ℕ, suc, ◌+◌, Bool, true, arith, subst, sym}
use Rattle.pq_pool.specs.Parts.{pool_view}
use Rattle.pq_pool.specs.Sweeps.{GoneOver}
use Rattle.pq_pool.proofs.PassLemmas.{stays_more, stays_none}
use Rattle.pq_pool.proofs.SweepLemmas.{gone_over_none, gone_over_left, gone_over_gone}
use Rattle.pq_pool.specs.SweepSteps.{SeatHeard}
use Rattle.pq_pool.proofs.sweeping.go_over.Goals.{then-go_over_seat, else-go_over_seat}
use Rattle.pq_pool.proofs.sweeping.go_over.Goals as goal

pub loop-seat-init : goal.loop-seat-init
loop-seat-init g c = let R = g.R.SeatRule.rule in let P = g.R.PoolRule.pool in let k = c.args.shared.now.table.shared.key in let z = c.args.shared.now.table.shared.table_id in let pass = c.args.pass.now in (
  stays_none R P g.R.PoolRule.BUILDER g.met.R.PoolRule.pool_laws z k pass.number pass.lanes pass.seat c.requires.builder,
  gone_over_none c.args.shared.now.seats (pool_view P pass.seat.me.0) c.requires.agrees,
)

pub loop-seat-preserved : goal.loop-seat-preserved
loop-seat-preserved g c =
    let R = g.R.SeatRule.rule in let P = g.R.PoolRule.pool in let k = c.args.shared.now.table.shared.key in let z = c.args.shared.now.table.shared.table_id in
    let pass = c.args.pass.now in let before = c.loop-seat.pass in let after = c.go_over_seat.new.pass in
    let i = c.loop-seat.invariant in let e = c.go_over_seat.ensures in let n = c.loop-seat.seat in let low = c.loop-seat.auto.seat in
    let seats = c.args.shared.now.seats in let u = pool_view P pass.seat.me.0 in let v = pool_view P before.seat.me.0 in let w = pool_view P after.seat.me.0 in
    let before-left = c.loop-seat.left in
    let next : suc n ≡ n + 1 = omega arith in (
      stays_more R P g.R.PoolRule.BUILDER g.met.R.PoolRule.pool_laws z k pass.number pass.lanes before.number before.lanes after.number after.lanes pass.seat before.seat after.seat i.0 e.same,
      elim c.if-go_over_seat.branch [
        | then-go_over_seat b ↦ subst (λ (l : Bool). GoneOver seats u w (n + 1) l) (sym b.left-is) (subst (λ (m : ℕ). GoneOver seats u w m true) next
            (gone_over_left seats u v w n low before-left i.1 (subst (λ (l : Bool). SeatHeard seats v w n l) b.if-go_over_seat.true e.heard)))
        | else-go_over_seat b ↦ subst (λ (l : Bool). GoneOver seats u w (n + 1) l) (sym b.left-is) (subst (λ (m : ℕ). GoneOver seats u w m before-left) next
            (gone_over_gone seats u v w n low before-left i.1 (subst (λ (l : Bool). SeatHeard seats v w n l) b.if-go_over_seat.false e.heard)))
      ],
    )
