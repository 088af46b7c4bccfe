use Rattle.std.proofs.Common.{◌≡◌, ℕ, arith, subst, sym}
use Rattle.pq_model.specs.History.{IsSeat}
use Rattle.pq_seats.specs.declared.views.Limits.{Limits}
use Rattle.pq_pool.specs.States.{grace_of}
use Rattle.pq_pool.specs.Parts.{pool_view}
use Rattle.pq_pool.specs.PoolLaws.{NamesAll}
use Rattle.pq_pool.specs.Views.{turned_at}
use Rattle.pq_pool.proofs.Allowing.{may_turn}
use Rattle.pq_pool.proofs.PassLemmas.{builder_stays, names_turned}
use Rattle.pq_pool.proofs.steps.turn_batches.Goals as goal

pub store-requires : goal.store-requires
store-requires g c =
    let R = g.R.SeatRule.rule in let P = g.R.PoolRule.pool in let laws = g.met.R.PoolRule.pool_laws in let B = g.R.PoolRule.BUILDER in let lawful = g.R.SeatRule.lawful in
    let k = c.args.shared.now.table.shared.key in let z = c.args.shared.now.table.shared.table_id in let seat = c.args.pass.now.seat in
    let long = c.args.shared.now.sized.0 in let key = c.args.shared.now.sized.1 in let at = c.requires.builder in let room = at.all.chunks.room in
    let seats = c.args.shared.now.seated.0 in
    (at.sits.table, omega arith, may_turn R lawful P B laws k z.slots seat.id seat.me at.holds c.args.bit (subst (λ (s : ℕ). (n : ℕ) → IsSeat s n → grace_of (pool_view P seat.me.0).counted n ≡ 0) seats c.requires.cleared))

pub returns-clause-same : goal.returns-clause-same
returns-clause-same g c =
    let R = g.R.SeatRule.rule in let P = g.R.PoolRule.pool in let laws = g.met.R.PoolRule.pool_laws in let B = g.R.PoolRule.BUILDER in let lawful = g.R.SeatRule.lawful in
    let k = c.args.shared.now.table.shared.key in let z = c.args.shared.now.table.shared.table_id in let seat = c.args.pass.now.seat in
    let long = c.args.shared.now.sized.0 in let key = c.args.shared.now.sized.1 in let at = c.requires.builder in let e = c.store.ensures in
    let v = pool_view P seat.me.0 in let n = seat.me.0.post.number in
    builder_stays P z k c.args.pass.now.number c.args.pass.now.lanes seat c.store.new.seat (turned_at v seat.me.0.limits.seats n c.args.bit) e.0 e.1 e.2 (laws.reads _ _) at
    (subst (λ (l : Limits). NamesAll k (turned_at v l.seats n c.args.bit)) (sym at.sits.limits) (names_turned k v at.all n c.args.bit))
