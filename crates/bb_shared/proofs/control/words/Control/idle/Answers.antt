-- The open word is loaded.
use Rattle.std.proofs.Common.{ap, ◌∙◌, sym, arith}
use Rattle.bb_shared.specs.Controls.{ControlSeated}
use Rattle.bb_shared.proofs.ControlSteps.{sees_open}
use Rattle.bb_shared.proofs.control.words.Control.idle.Goals as goal

pub load-requires : goal.load-requires
load-requires c = let wide = c.self.invariant in (ap (λ (z : ControlSeated). z.control) c.seat.view_is ∙ (c.requires.own ∙ sym c.self.view_is), omega arith, sees_open c.self.inside.table.shared.key _ c.seat.inside.seat.id c.seat.inside.seat.me c.seat.invariant.1)
