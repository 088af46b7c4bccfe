use Rattle.std.proofs.Common.{◌<◌}
use Rattle.std.proofs.lemmas.Result.{IfOk-weaker}
use Rattle.bb_shop.specs.Working.{IsPlanOf}
use Rattle.bb_shop.specs.Plans.{makespan}
use Rattle.bb_shop.specs.TreeLawsHold.Standing.{plan_within}
use Rattle.bb_shop.proofs.shop.Shop.starts_of.Goals as goal

pub returns-clause-range : goal.returns-clause-range
returns-clause-range c =
    let s = c.args.self.now in
    let order = c.order.result.now in
    IfOk-weaker c.plan.result (IsPlanOf s order) (λ starts. makespan s starts < 67108864) (λ starts is. plan_within s order starts c.plan.ensures.within_limits is) c.plan.ensures.plan
