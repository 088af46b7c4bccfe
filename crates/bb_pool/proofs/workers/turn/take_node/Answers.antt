use Rattle.std.proofs.Common.{refl, subst}
use Rattle.bb_shared.specs.Stores.{KnowsStore}
use Rattle.bb_pool.proofs.Several.Turns.{none_found, node_got}
use Rattle.bb_pool.proofs.workers.turn.take_node.Goals as goal

pub returns-in-Got-clause-held : goal.returns-in-Got-clause-held
returns-in-Got-clause-held g c = let sh = c.args.shared.now in let knows = subst (λ n. KnowsStore n c.take-node.new.seat.kept) sh.limit.0 c.take-node.ensures.knows in
    node_got (g.P.Problem.meaning c.args.problem.now) sh.nodes _ _ _ _ c.in-Got.e (record { key = c.in-Got.e.key; node = c.take-node.result; key_fits = c.in-Got.e.key_fits }) _ c.in-Got.ensures.call.1 c.take-node.ensures.taken c.best-best.ensures.read refl refl refl knows c.requires.working

pub returns-in-Empty-clause-none : goal.returns-in-Empty-clause-none
returns-in-Empty-clause-none g c = none_found (g.P.Problem.meaning c.args.problem.now) c.args.shared.now.nodes _ _ _ _ _ _ _ _ c.in-Empty.ensures.call.1 refl c.best-best.ensures.read refl refl (λ e is. cc) tt c.limit.ensures.limit c.in-Empty.ensures.knows c.requires.working

pub returns-in-Above-clause-none : goal.returns-in-Above-clause-none
returns-in-Above-clause-none g c = none_found (g.P.Problem.meaning c.args.problem.now) c.args.shared.now.nodes _ _ _ _ _ _ _ _ c.in-Above.ensures.call.1 refl c.best-best.ensures.read refl refl (λ e is. cc) tt c.limit.ensures.limit c.in-Above.ensures.knows c.requires.working

pub returns-in-Got-clause-took : goal.returns-in-Got-clause-took
returns-in-Got-clause-took g c = (c.in-Got.e.id, c.take-node.ensures.taken)
