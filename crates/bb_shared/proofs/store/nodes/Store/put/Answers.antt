-- The slot is taken, written and given back.
use Rattle.std.proofs.Common.{◌<◌, ap, ◌∙◌, sym, subst, refl, arith, Some, None}
use Rattle.atomic_table.specs.Seated.{TableId}
use Rattle.bb_shared.specs.declared.store.stored.Stored.{Stored}
use Rattle.bb_shared.specs.Stores.{StoreSeated, IsFree, KnowsStore, with_put, numbered}
use Rattle.bb_shared.specs.StoreRules.{with_putting}
use Rattle.bb_shared.proofs.StoreSeats.{Hand, has_slot, was_held, rewritten, put_done}
use Rattle.bb_shared.proofs.StoreSteps.{begins_put, ends_put}
use Rattle.bb_shared.proofs.store.nodes.Store.put.Goals as goal

pub compare_exchange-requires : goal.compare_exchange-requires
compare_exchange-requires g c =
    let wide = c.self.invariant in let size = ap (λ (z : TableId). z.slots) c.self.view_is in let within = c.requires.within in (
      ap (λ (z : StoreSeated g.row.N.Denot). z.store) c.seat.view_is ∙ (c.requires.own ∙ sym c.self.view_is),
      omega arith,
      begins_put c.self.inside.table.shared.key _ c.seat.inside.seat.id c.args.number c.seat.inside.seat.me c.seat.invariant.2 c.seat.invariant.1 (omega arith)
          (subst (λ (z : Stored g.row.N.Denot). IsFree z c.args.number) (sym (ap (λ (z : StoreSeated g.row.N.Denot). z.kept) c.seat.view_is)) c.requires.free),
    )

pub exchange-requires : goal.exchange-requires
exchange-requires g c = (
  c.compare_exchange.ensures.0 ∙ (ap (λ (z : StoreSeated g.row.N.Denot). z.store) c.seat.view_is ∙ (c.requires.own ∙ sym c.self.view_is)),
  (None, has_slot c.compare_exchange.new.seat.me _ c.args.number None _ (c.compare_exchange.ensures.2 c.args.number (omega arith))),
)

pub unreachable-requires : goal.unreachable-requires
unreachable-requires g c =
    let none = was_held c.compare_exchange.new.seat.me _ c.args.number _ None c.exchange.result _ (c.compare_exchange.ensures.2 c.args.number (omega arith)) c.exchange.ensures.2 in
    let found = c.in-Some.is in absurd (cc)

pub store-requires : goal.store-requires
store-requires g c =
    let wide = c.self.invariant in let size = ap (λ (z : TableId). z.slots) c.self.view_is in let within = c.requires.within in (
      c.exchange.ensures.0 ∙ (c.compare_exchange.ensures.0 ∙ (ap (λ (z : StoreSeated g.row.N.Denot). z.store) c.seat.view_is ∙ (c.requires.own ∙ sym c.self.view_is))),
      omega arith,
      ends_put c.self.inside.table.shared.key _ c.exchange.new.seat.id c.args.number c.exchange.new.seat.me (with_putting c.seat.inside.seat.me.0 c.args.number) c.args.node c.seat.invariant.2 refl (omega arith)
          (rewritten c.compare_exchange.new.seat.me c.exchange.new.seat.me _ c.args.number None (Some c.args.node) _ (c.compare_exchange.ensures.2 c.args.number (omega arith)) c.seat.invariant.0 c.exchange.ensures.3),
    )

pub invariant_of-seat : goal.invariant_of-seat
invariant_of-seat g c =
    let full = rewritten c.compare_exchange.new.seat.me c.exchange.new.seat.me _ c.args.number None (Some c.args.node) _ (c.compare_exchange.ensures.2 c.args.number (omega arith)) c.seat.invariant.0 c.exchange.ensures.3 in
    let done = put_done c.exchange.new.seat.me c.store.new.seat.me _ c.args.number c.args.node full (c.store.ensures.2 c.args.number c.args.node (omega arith) (ap (λ (z : Hand g.row.N.Denot). z.1) full)).0 in (
      ap (λ (z : Hand g.row.N.Denot). z.1) done,
      ap (λ (z : Hand g.row.N.Denot). z.0.putting) done,
      subst (λ (z : Hand g.row.N.Denot). 0 < z.0.kept.parts) (sym done) c.seat.invariant.2,
    )

pub returns-clause-put : goal.returns-clause-put
returns-clause-put g c =
    let full = rewritten c.compare_exchange.new.seat.me c.exchange.new.seat.me _ c.args.number None (Some c.args.node) _ (c.compare_exchange.ensures.2 c.args.number (omega arith)) c.seat.invariant.0 c.exchange.ensures.3 in
    let done = put_done c.exchange.new.seat.me c.store.new.seat.me _ c.args.number c.args.node full (c.store.ensures.2 c.args.number c.args.node (omega arith) (ap (λ (z : Hand g.row.N.Denot). z.1) full)).0 in
    ap (λ (z : Hand g.row.N.Denot). z.0.kept) done ∙ ap (λ (z : StoreSeated g.row.N.Denot). with_put z.kept (numbered c.args.number c.args.node)) c.seat.view_is

pub returns-clause-knows : goal.returns-clause-knows
returns-clause-knows g c =
    let full = rewritten c.compare_exchange.new.seat.me c.exchange.new.seat.me _ c.args.number None (Some c.args.node) _ (c.compare_exchange.ensures.2 c.args.number (omega arith)) c.seat.invariant.0 c.exchange.ensures.3 in
    subst (λ (z : TableId). KnowsStore z.slots c.store.new.seat.me.0.kept) c.self.view_is (c.store.ensures.2 c.args.number c.args.node (omega arith) (ap (λ (z : Hand g.row.N.Denot). z.1) full)).1
