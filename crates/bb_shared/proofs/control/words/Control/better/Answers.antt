-- The best word rises.
use Rattle.std.proofs.Common.{ap, ◌∙◌, sym, arith}
use Rattle.bb_shared.specs.Controls.{ControlSeated}
use Rattle.bb_shared.proofs.ControlSteps.{tells}
use Rattle.bb_shared.proofs.control.words.Control.better.Goals as goal

pub fetch_max-requires : goal.fetch_max-requires
fetch_max-requires c = let wide = c.self.invariant in let small = c.requires.cost in (ap (λ (z : ControlSeated). z.control) c.seat.view_is ∙ (c.requires.own ∙ sym c.self.view_is), omega arith, tells c.self.inside.table.shared.key _ c.seat.inside.seat.id _ c.seat.inside.seat.me c.seat.invariant.1 (omega arith) (omega arith))
