-- The slot is taken with its node, emptied and given back.
use Rattle.std.proofs.Common.{◌≡◌, ◌<◌, [], ◌∷◌, ◌++◌, ap, ◌∙◌, sym, subst, inr, arith, Some, None, Option, IfSome, IfNone}
use Rattle.atomic_table.specs.Seated.{TableId}
use Rattle.bb_shared.specs.Stores.{StoreSeated, KnowsStore, IsMissed, nodes_of, with_take, numbered, number_of, attempt}
use Rattle.bb_shared.specs.StoreRules.{having_taken}
use Rattle.std.proofs.lemmas.List.Elements.{Contains-push}
use Rattle.pq_numbers.proofs.Counts.{times-contains}
use Rattle.bb_shared.proofs.StoreSeats.{Hand, has_slot, was_held, rewritten, take_done}
use Rattle.bb_shared.proofs.StoreSteps.{tries_take, ends_take}
use Rattle.bb_shared.proofs.store.nodes.Store.try_take.Goals as goal

pub compare_exchange-requires : goal.compare_exchange-requires
compare_exchange-requires g c =
    let wide = c.self.invariant in (
      ap (λ (z : StoreSeated g.row.N.Denot). z.store) c.seat.view_is ∙ (c.requires.own ∙ sym c.self.view_is),
      omega arith,
      tries_take c.self.inside.table.shared.key _ c.seat.inside.seat.id c.args.number c.seat.inside.seat.me c.seat.invariant.2 (omega arith),
    )

pub invariant_of-seat : goal.invariant_of-seat
invariant_of-seat g c = let same = (c.compare_exchange.ensures.2 c.args.number (omega arith)).1 c.if-compare_exchange-ne-FULL.true in (
  ap (λ (z : Hand g.row.N.Denot). z.1) same ∙ c.seat.invariant.0,
  ap (λ (z : Hand g.row.N.Denot). z.0.putting) same ∙ c.seat.invariant.1,
  subst (λ (z : Hand g.row.N.Denot). 0 < z.0.kept.parts) (sym same) c.seat.invariant.2,
)

pub returns-then-compare_exchange-ne-FULL-clause-same : goal.returns-then-compare_exchange-ne-FULL-clause-same
returns-then-compare_exchange-ne-FULL-clause-same g c = ap (λ (z : Hand g.row.N.Denot). z.0.kept) ((c.compare_exchange.ensures.2 c.args.number (omega arith)).1 c.if-compare_exchange-ne-FULL.true) ∙ ap (λ (z : StoreSeated g.row.N.Denot). z.kept) c.seat.view_is

pub returns-then-compare_exchange-ne-FULL-clause-missed : goal.returns-then-compare_exchange-ne-FULL-clause-missed
returns-then-compare_exchange-ne-FULL-clause-missed g c =
    let same = (c.compare_exchange.ensures.2 c.args.number (omega arith)).1 c.if-compare_exchange-ne-FULL.true in
    let before = c.seat.view_is in
    inr (
      c.compare_exchange.result,
      c.if-compare_exchange-ne-FULL.true,
      λ i. record {
        store = (c.compare_exchange.ensures.0 ∙ ap (λ (z : StoreSeated g.row.N.Denot). z.store) before) i;
        kept = (ap (λ (z : Hand g.row.N.Denot). z.0.kept) same ∙ ap (λ (z : StoreSeated g.row.N.Denot). z.kept) before) i;
        attempts = (ap (λ (z : Hand g.row.N.Denot). z.0.attempts) same ∙ ap (λ (z : StoreSeated g.row.N.Denot). z.attempts ++ attempt c.args.number c.compare_exchange.result ∷ []) before) i;
      },
    )

pub exchange-node-requires : goal.exchange-node-requires
exchange-node-requires g c = let won = ((c.compare_exchange.ensures.2 c.args.number (omega arith)).0 c.if-compare_exchange-ne-FULL.false) in (
  c.compare_exchange.ensures.0 ∙ (ap (λ (z : StoreSeated g.row.N.Denot). z.store) c.seat.view_is ∙ (c.requires.own ∙ sym c.self.view_is)),
  (Some won.0, has_slot c.compare_exchange.new.seat.me _ c.args.number (Some won.0) _ won.1),
)

pub store-requires : goal.store-requires
store-requires g c =
    let wide = c.self.invariant in let won = ((c.compare_exchange.ensures.2 c.args.number (omega arith)).0 c.if-compare_exchange-ne-FULL.false) in (
      c.exchange-node.ensures.0 ∙ (c.compare_exchange.ensures.0 ∙ (ap (λ (z : StoreSeated g.row.N.Denot). z.store) c.seat.view_is ∙ (c.requires.own ∙ sym c.self.view_is))),
      omega arith,
      ends_take c.self.inside.table.shared.key _ c.exchange-node.new.seat.id c.args.number c.exchange-node.new.seat.me (having_taken c.seat.inside.seat.me.0 (numbered c.args.number won.0))
          (times-contains number_of _ (numbered c.args.number won.0) (Contains-push c.seat.inside.seat.me.0.kept.takes (numbered c.args.number won.0))) (omega arith)
          (rewritten c.compare_exchange.new.seat.me c.exchange-node.new.seat.me _ c.args.number (Some won.0) None _ won.1 c.seat.invariant.0 c.exchange-node.ensures.3),
    )

pub invariant_of-seat-2 : goal.invariant_of-seat-2
invariant_of-seat-2 g c =
    let won = ((c.compare_exchange.ensures.2 c.args.number (omega arith)).0 c.if-compare_exchange-ne-FULL.false) in
    let done = take_done c.exchange-node.new.seat.me c.store.new.seat.me _ c.args.number (rewritten c.compare_exchange.new.seat.me c.exchange-node.new.seat.me _ c.args.number (Some won.0) None _ won.1 c.seat.invariant.0 c.exchange-node.ensures.3) c.store.ensures.2 in (
      ap (λ (z : Hand g.row.N.Denot). z.1) done,
      ap (λ (z : Hand g.row.N.Denot). z.0.putting) done ∙ c.seat.invariant.1,
      subst (λ (z : Hand g.row.N.Denot). 0 < z.0.kept.parts) (sym done) c.seat.invariant.2,
    )

pub returns-clause-taken : goal.returns-clause-taken
returns-clause-taken g c =
    let won = ((c.compare_exchange.ensures.2 c.args.number (omega arith)).0 c.if-compare_exchange-ne-FULL.false) in
    let done = take_done c.exchange-node.new.seat.me c.store.new.seat.me _ c.args.number (rewritten c.compare_exchange.new.seat.me c.exchange-node.new.seat.me _ c.args.number (Some won.0) None _ won.1 c.seat.invariant.0 c.exchange-node.ensures.3) c.store.ensures.2 in
    let found = was_held c.compare_exchange.new.seat.me _ c.args.number _ (Some won.0) c.exchange-node.result _ won.1 c.exchange-node.ensures.2 in
    subst (λ (z : Option g.row.N.Denot). IfSome z (λ node. c.store.new.seat.me.0.kept ≡ with_take c.args.seat.now.kept (numbered c.args.number node))) (sym found)
    (ap (λ (z : Hand g.row.N.Denot). z.0.kept) done ∙ ap (λ (z : StoreSeated g.row.N.Denot). with_take z.kept (numbered c.args.number won.0)) c.seat.view_is)

pub returns-clause-knows : goal.returns-clause-knows
returns-clause-knows g c =
    let won = ((c.compare_exchange.ensures.2 c.args.number (omega arith)).0 c.if-compare_exchange-ne-FULL.false) in
    let done = take_done c.exchange-node.new.seat.me c.store.new.seat.me _ c.args.number (rewritten c.compare_exchange.new.seat.me c.exchange-node.new.seat.me _ c.args.number (Some won.0) None _ won.1 c.seat.invariant.0 c.exchange-node.ensures.3) c.store.ensures.2 in
    let found = was_held c.compare_exchange.new.seat.me _ c.args.number _ (Some won.0) c.exchange-node.result _ won.1 c.exchange-node.ensures.2 in
    let same : c.compare_exchange.new.seat.me.0.kept ≡ c.store.new.seat.me.0.kept = ap (λ (z : Hand g.row.N.Denot). z.0.kept) won.1 ∙ sym (ap (λ (z : Hand g.row.N.Denot). z.0.kept) done) in
    subst (λ (z : Option g.row.N.Denot). IfSome z (λ node. KnowsStore (nodes_of c.args.self.now) c.store.new.seat.me.0.kept)) (sym found)
    (subst (λ (z : TableId). KnowsStore z.slots c.store.new.seat.me.0.kept) c.self.view_is (subst (KnowsStore c.self.inside.table.shared.table_id.slots) same won.2))

pub returns-clause-same : goal.returns-clause-same
returns-clause-same g c =
    let won = ((c.compare_exchange.ensures.2 c.args.number (omega arith)).0 c.if-compare_exchange-ne-FULL.false) in
    let found = was_held c.compare_exchange.new.seat.me _ c.args.number _ (Some won.0) c.exchange-node.result _ won.1 c.exchange-node.ensures.2 in
    subst (λ (z : Option g.row.N.Denot). IfNone z (c.store.new.seat.me.0.kept ≡ c.args.seat.now.kept)) (sym found) tt

pub returns-clause-missed : goal.returns-clause-missed
returns-clause-missed g c =
    let won = ((c.compare_exchange.ensures.2 c.args.number (omega arith)).0 c.if-compare_exchange-ne-FULL.false) in
    let found = was_held c.compare_exchange.new.seat.me _ c.args.number _ (Some won.0) c.exchange-node.result _ won.1 c.exchange-node.ensures.2 in
    let now : StoreSeated g.row.N.Denot = record { store = c.store.new.seat.table_id; kept = c.store.new.seat.me.0.kept; attempts = c.store.new.seat.me.0.attempts } in
    subst (λ (z : Option g.row.N.Denot). IfNone z (IsMissed (nodes_of c.args.self.now) c.args.seat.now c.args.number now)) (sym found) tt
