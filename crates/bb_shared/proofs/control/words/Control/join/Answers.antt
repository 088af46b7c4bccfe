-- The other seat is spent, and then the seat learns what it knows.
use Rattle.std.proofs.Common.{ap, ◌∙◌, sym, arith}
use Rattle.atomic_table.specs.Table.{Me}
use Rattle.bb_shared.specs.declared.control.told.Told.{Told}
use Rattle.bb_shared.specs.Controls.{ControlSeated}
use Rattle.bb_shared.proofs.ControlSteps.{joins, learns}
use Rattle.bb_shared.proofs.control.words.Control.join.Goals as goal

pub join_seat-requires : goal.join_seat-requires
join_seat-requires c = let wide = c.self.invariant in (
  ap (λ (z : ControlSeated). z.control) c.into.view_is ∙ (c.requires.own.0 ∙ sym c.self.view_is),
  ap (λ (z : ControlSeated). z.control) c.other.view_is ∙ (c.requires.own.1 ∙ sym c.self.view_is),
  c.other.invariant.0,
  omega arith,
  joins c.self.inside.table.shared.key c.into.inside.seat.id c.other.inside.seat.id c.into.inside.seat.me.0 c.other.inside.seat.me.0 c.into.invariant.1,
)

pub load-requires : goal.load-requires
load-requires c = let wide = c.self.invariant in (
  c.join_seat.ensures.0 ∙ (ap (λ (z : ControlSeated). z.control) c.into.view_is ∙ (c.requires.own.0 ∙ sym c.self.view_is)),
  omega arith,
  learns c.self.inside.table.shared.key _ c.join_seat.new.seat.id c.join_seat.new.seat.me (let parts = ap (λ (z : Me (Unit {0}) Told). z.0.parts) c.join_seat.ensures.2 in let some_part = c.into.invariant.1 in omega arith),
)
