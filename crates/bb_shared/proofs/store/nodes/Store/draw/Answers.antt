-- What the step told is what the draw answers.
use Rattle.std.proofs.Common.{◌+◌, ap, sym, subst}
use Rattle.bb_shared.specs.declared.store.stored.Stored.{Stored}
use Rattle.bb_shared.specs.declared.store.drawn.Drawn.TheVariants.{First, Over}
use Rattle.bb_shared.specs.Stores.{StoreSeated, HasNoOver, IsDrawn}
use Rattle.bb_shared.proofs.StoreSeats.{Hand, drawn_first, drawn_over}
use Rattle.bb_shared.proofs.store.nodes.Store.draw.Goals as goal

pub draw_as-first-requires-clause-under : goal.draw_as-first-requires-clause-under
draw_as-first-requires-clause-under g c = subst HasNoOver (sym (ap (λ (z : StoreSeated g.row.N.Denot). z.kept) c.seat.view_is)) c.requires.under

pub returns-then-asked-limit-clause-drawn : goal.returns-then-asked-limit-clause-drawn
returns-then-asked-limit-clause-drawn g c = let told = c.draw_as-first.ensures.drawn in
    subst (λ (z : Stored g.row.N.Denot). IsDrawn z c.args.count c.args.limit (Over (c.draw_as-first.result + c.args.count)) c.draw_as-first.new.seat.me.0.kept) (ap (λ (z : StoreSeated g.row.N.Denot). z.kept) c.seat.view_is)
    (drawn_over c.seat.inside.seat.me.0.kept c.draw_as-first.new.seat.me.0.kept c.draw_as-first.result c.args.count c.args.limit c.if-asked-limit.true told.1 told.3 (ap (λ (z : Hand g.row.N.Denot). z.0.kept) told.0))

pub returns-clause-drawn : goal.returns-clause-drawn
returns-clause-drawn g c = let told = c.draw_as-first.ensures.drawn in
    subst (λ (z : Stored g.row.N.Denot). IsDrawn z c.args.count c.args.limit (First c.draw_as-first.result) c.draw_as-first.new.seat.me.0.kept) (ap (λ (z : StoreSeated g.row.N.Denot). z.kept) c.seat.view_is)
    (drawn_first c.seat.inside.seat.me.0.kept c.draw_as-first.new.seat.me.0.kept c.draw_as-first.result c.args.count c.args.limit c.if-asked-limit.false told.1 told.2 (ap (λ (z : Hand g.row.N.Denot). z.0.kept) told.0))
