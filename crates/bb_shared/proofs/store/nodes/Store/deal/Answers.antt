-- One part goes to the new seat.
use Rattle.std.proofs.Common.{◌∙◌, sym, subst, arith, Option}
use Rattle.atomic_table.specs.Table.{Me, Splits}
use Rattle.bb_shared.specs.declared.store.stored.StoreView.{StoreView}
use Rattle.bb_shared.specs.StoreRules.{IsStore, given_one, one_part}
use Rattle.bb_shared.proofs.StoreDeals.{deals}
use Rattle.bb_shared.proofs.store.nodes.Store.deal.Goals as goal

pub split_seat-seat-requires : goal.split_seat-seat-requires
split_seat-seat-requires g c = let wide = c.self.invariant in (
  c.requires.own ∙ sym c.self.view_is,
  omega arith,
  subst (λ (m : Me (Option g.row.N.Denot) (StoreView g.row.N.Denot)). Splits (IsStore c.self.inside.table.shared.key) c.args.dealer.now.id m.0 (given_one m.0) (one_part m.0)) (sym c.requires.parts.2)
      (deals c.self.inside.table.shared.key c.args.dealer.now.id c.requires.parts.0 c.requires.parts.1),
)
