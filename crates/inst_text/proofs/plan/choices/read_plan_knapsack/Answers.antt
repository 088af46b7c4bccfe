use Rattle.std.proofs.Common.{subst}
use Rattle.pq_io.specs.Reading.{Gives}
use Rattle.inst_text.specs.Plans.{IsKnapsackPlanText, knapsack_plan_of}
use Rattle.inst_text.proofs.Readers.{given_is}
use Rattle.inst_text.proofs.PlanTexts.{knapsack_plan_is_spelled, knapsack_plan_is_read}
use Rattle.inst_text.proofs.plan.choices.read_plan_knapsack.Goals as goal

pub returns-clause-spelled : goal.returns-clause-spelled
unfolding knapsack_plan_of
returns-clause-spelled c =
    given_is (knapsack_plan_of c.args.bytes.now) (λ v. IsKnapsackPlanText c.args.bytes.now v.0 v.1) (knapsack_plan_is_spelled c.args.bytes.now) c.read_whole.result c.read_whole.ensures

pub returns-clause-read : goal.returns-clause-read
unfolding knapsack_plan_of
returns-clause-read c = λ i p is. subst (λ r. Gives (λ v. v) c.read_whole.result r) (knapsack_plan_is_read c.args.bytes.now i p is) c.read_whole.ensures
