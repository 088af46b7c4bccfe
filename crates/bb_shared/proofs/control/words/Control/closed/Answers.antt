-- The open word falls by one.
use Rattle.std.proofs.Common.{ap, ◌∙◌, sym, arith}
use Rattle.bb_shared.specs.Controls.{ControlSeated}
use Rattle.bb_shared.proofs.ControlSteps.{closes_one}
use Rattle.bb_shared.proofs.control.words.Control.closed.Goals as goal

pub fetch_sub-found-requires : goal.fetch_sub-found-requires
fetch_sub-found-requires c = let wide = c.self.invariant in (ap (λ (z : ControlSeated). z.control) c.seat.view_is ∙ (c.requires.own ∙ sym c.self.view_is), omega arith, closes_one c.self.inside.table.shared.key _ c.seat.inside.seat.id c.seat.inside.seat.me c.seat.invariant.1)
