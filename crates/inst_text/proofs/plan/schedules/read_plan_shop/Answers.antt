use Rattle.std.proofs.Common.{subst}
use Rattle.pq_io.specs.Reading.{Gives}
use Rattle.inst_text.specs.Plans.{IsShopPlanText, shop_plan_of}
use Rattle.inst_text.proofs.Readers.{given_is}
use Rattle.inst_text.proofs.PlanTexts.{shop_plan_is_spelled, shop_plan_is_read}
use Rattle.inst_text.proofs.plan.schedules.read_plan_shop.Goals as goal

pub returns-clause-spelled : goal.returns-clause-spelled
unfolding shop_plan_of
returns-clause-spelled c = given_is (shop_plan_of c.args.bytes.now) (λ v. IsShopPlanText c.args.bytes.now v.0 v.1) (shop_plan_is_spelled c.args.bytes.now) c.read_whole.result c.read_whole.ensures

pub returns-clause-read : goal.returns-clause-read
unfolding shop_plan_of
returns-clause-read c = λ s p is. subst (λ r. Gives (λ v. v) c.read_whole.result r) (shop_plan_is_read c.args.bytes.now s p is) c.read_whole.ensures
