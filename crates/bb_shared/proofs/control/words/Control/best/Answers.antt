-- The best word is loaded.
use Rattle.std.proofs.Common.{ap, ◌∙◌, sym, arith}
use Rattle.bb_shared.specs.Controls.{ControlSeated}
use Rattle.bb_shared.proofs.ControlSteps.{sees_best}
use Rattle.bb_shared.proofs.control.words.Control.best.Goals as goal

pub load-word-requires : goal.load-word-requires
load-word-requires c = let wide = c.self.invariant in (ap (λ (z : ControlSeated). z.control) c.seat.view_is ∙ (c.requires.own ∙ sym c.self.view_is), omega arith, sees_best c.self.inside.table.shared.key _ c.seat.inside.seat.id c.seat.inside.seat.me c.seat.invariant.1)
