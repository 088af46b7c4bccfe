-- The stop word is set where it is 0.
use Rattle.std.proofs.Common.{ℕ, ap, ◌∙◌, sym, subst, arith}
use Rattle.std.specs.Prelude.{◌==◌}
use mathlib.Core.Option.{none}
use prog.Atomic.{either}
use Rattle.atomic_table.specs.Table.{Allows, step}
use Rattle.bb_shared.specs.Controls.{ControlSeated}
use Rattle.bb_shared.proofs.ControlSteps.{sets_stop}
use Rattle.bb_shared.proofs.control.words.Control.stop.Goals as goal
use Rattle.bb_shared.specs.ControlRules.{IsControl, set_stop}

pub compare_exchange-requires : goal.compare_exchange-requires
compare_exchange-requires c = let wide = c.self.invariant in let slots = c.self.inside.table.shared.table_id.slots in let me = c.seat.inside.seat.me in (
  ap (λ (z : ControlSeated). z.control) c.seat.view_is ∙ (c.requires.own ∙ sym c.self.view_is),
  omega arith,
  subst (λ (z : ℕ). Allows (IsControl c.self.inside.table.shared.key) slots c.seat.inside.seat.id me 32 (λ n. either (n == 0) z n) (set_stop (step slots 32 0 z none) me)) (sym c.word_of.ensures)
      (sets_stop c.self.inside.table.shared.key slots c.seat.inside.seat.id me c.args.stop c.seat.invariant.1 c.requires.tellable),
)
