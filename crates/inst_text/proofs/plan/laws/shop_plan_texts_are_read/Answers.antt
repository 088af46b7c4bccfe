use Rattle.inst_text.proofs.PlanTexts.{shop_plan_is_spelled, shop_plan_is_read}
use Rattle.inst_text.proofs.plan.laws.shop_plan_texts_are_read.Goals as goal

pub returns : goal.returns
returns c = λ bytes s p. (shop_plan_is_spelled bytes (s, p), shop_plan_is_read bytes s p)
