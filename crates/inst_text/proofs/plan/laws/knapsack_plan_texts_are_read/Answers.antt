use Rattle.inst_text.proofs.PlanTexts.{knapsack_plan_is_spelled, knapsack_plan_is_read}
use Rattle.inst_text.proofs.plan.laws.knapsack_plan_texts_are_read.Goals as goal

pub returns : goal.returns
returns c = λ bytes i p. (knapsack_plan_is_spelled bytes (i, p), knapsack_plan_is_read bytes i p)
