use Rattle.std.proofs.Common.{refl, sym, ap, ◌∙◌}
use Rattle.bb_pool.specs.Costs.{is_better}
use Rattle.bb_pool.specs.Together.{AtWork}
use Rattle.bb_pool.proofs.Several.Counting.{moved}
use Rattle.bb_pool.proofs.Several.Working.{leaf_left, leaf_kept}
use Rattle.bb_pool.proofs.workers.turn.keep_plan.Goals as goal

pub returns-then-is_below-clause-working : goal.returns-then-is_below-clause-working
returns-then-is_below-clause-working g c = let m = g.P.Problem.meaning c.args.problem.now in let held = c.requires.leaf in
    moved (AtWork m) {made = c.args.worker.now.made} refl refl c.better.ensures.better
    (leaf_kept m _ _ _ _ held.0 held.1 _ c.args.best c.requires.read.0 c.requires.read.1 held.3 c.cost-cost.ensures (sym c.if-is_below.ensures) held.2)

pub returns-clause-working : goal.returns-clause-working
returns-clause-working g c = let m = g.P.Problem.meaning c.args.problem.now in let held = c.requires.leaf in
    leaf_left m _ _ _ _ held.0 held.1 c.args.plan c.args.best c.requires.read.0 held.3
    (ap (λ b. is_better b c.args.best) (sym c.cost-cost.ensures) ∙ sym c.if-is_below.ensures) held.2
