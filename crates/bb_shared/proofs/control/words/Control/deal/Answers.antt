-- One part goes to the new seat.
use Rattle.std.proofs.Common.{◌∙◌, sym, subst, arith}
use Rattle.atomic_table.specs.Table.{Me}
use Rattle.bb_shared.specs.declared.control.told.Told.{Told}
use Rattle.bb_shared.proofs.ControlSteps.{deals}
use Rattle.bb_shared.proofs.control.words.Control.deal.Goals as goal
use Rattle.atomic_table.specs.Table.{Splits}
use Rattle.bb_shared.specs.ControlRules.{IsControl, gave_one, got_one}

pub split_seat-seat-requires : goal.split_seat-seat-requires
split_seat-seat-requires c = let wide = c.self.invariant in (
  c.requires.own ∙ sym c.self.view_is,
  omega arith,
  subst (λ (m : Me (Unit {0}) Told). Splits (IsControl {S = Unit {0}} c.self.inside.table.shared.key) c.args.dealer.now.id m.0 (gave_one m.0) (got_one m.0)) (sym c.requires.parts.2)
      (deals c.self.inside.table.shared.key c.args.dealer.now.id c.requires.parts.0 c.requires.parts.1),
)
