-- The open word rises.
use Rattle.std.proofs.Common.{ap, ◌∙◌, sym, arith}
use Rattle.bb_shared.specs.Controls.{ControlSeated}
use Rattle.bb_shared.proofs.ControlSteps.{opens_more}
use Rattle.bb_shared.proofs.control.words.Control.opened.Goals as goal

pub fetch_add-requires : goal.fetch_add-requires
fetch_add-requires c = let wide = c.self.invariant in (ap (λ (z : ControlSeated). z.control) c.seat.view_is ∙ (c.requires.own ∙ sym c.self.view_is), omega arith, opens_more c.self.inside.table.shared.key _ c.seat.inside.seat.id c.args.count c.seat.inside.seat.me c.seat.invariant.1)
