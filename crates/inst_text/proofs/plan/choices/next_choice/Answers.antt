use Rattle.inst_text.proofs.PlanTexts.{choice_fits}
use Rattle.inst_text.proofs.plan.choices.next_choice.Goals as goal

pub invariant_of-result : goal.invariant_of-result
invariant_of-result c = choice_fits c.args.count _ _ c.requires c.in_ok-numbers.ensures
