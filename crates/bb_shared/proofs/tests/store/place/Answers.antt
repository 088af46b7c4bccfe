use Rattle.std.proofs.Common.{sym, subst, arith}
use Rattle.bb_shared.specs.Stores.{HasNoOver}
use Rattle.bb_shared.proofs.Free.{drawn_free, may_draw_again}
use Rattle.bb_shared.proofs.tests.store.place.Goals as goal

pub put-requires-clause-free : goal.put-requires-clause-free
put-requires-clause-free c = drawn_free c.args.seat.now.kept c.draw.new.seat.kept c.in-First.number 1 c.args.nodes c.in-First.number c.in-First.ensures.drawn (omega arith) (omega arith)

pub returns-in-First-clause-under : goal.returns-in-First-clause-under
returns-in-First-clause-under c = subst HasNoOver (sym c.put.ensures.put) (may_draw_again c.args.seat.now.kept c.draw.new.seat.kept c.in-First.number 1 c.args.nodes c.requires.under c.in-First.ensures.drawn)
