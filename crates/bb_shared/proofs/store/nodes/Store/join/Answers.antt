-- The other seat is spent, and then the seat learns what it knows.
use Rattle.std.proofs.Common.{ap, ◌∙◌, sym, arith, Option}
use Rattle.atomic_table.specs.Table.{Me}
use Rattle.bb_shared.specs.Stores.{StoreSeated}
use Rattle.bb_shared.specs.declared.store.stored.StoreView.{StoreView}
use Rattle.bb_shared.proofs.StoreDeals.{joins}
use Rattle.bb_shared.proofs.StoreSteps.{learns}
use Rattle.bb_shared.proofs.store.nodes.Store.join.Goals as goal

pub join_seat-requires : goal.join_seat-requires
join_seat-requires g c = let wide = c.self.invariant in (
  ap (λ (z : StoreSeated g.row.N.Denot). z.store) c.into.view_is ∙ (c.requires.own.0 ∙ sym c.self.view_is),
  ap (λ (z : StoreSeated g.row.N.Denot). z.store) c.other.view_is ∙ (c.requires.own.1 ∙ sym c.self.view_is),
  c.other.invariant.0,
  omega arith,
  joins c.self.inside.table.shared.key _ _ _ _ c.into.invariant.2 c.other.invariant.1,
)

pub load-requires : goal.load-requires
load-requires g c = let wide = c.self.invariant in (
  c.join_seat.ensures.0 ∙ (ap (λ (z : StoreSeated g.row.N.Denot). z.store) c.into.view_is ∙ (c.requires.own.0 ∙ sym c.self.view_is)),
  omega arith,
  learns c.self.inside.table.shared.key _ _ c.join_seat.new.seat.me (let parts = ap (λ (z : Me (Option g.row.N.Denot) (StoreView g.row.N.Denot)). z.0.kept.parts) c.join_seat.ensures.2 in let some_part = c.into.invariant.2 in omega arith),
)
