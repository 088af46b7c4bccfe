use Rattle.inst_text.proofs.PlanTexts.{starts_fit}
use Rattle.inst_text.proofs.plan.schedules.next_starts.Goals as goal

pub invariant_of-result : goal.invariant_of-result
invariant_of-result c = starts_fit c.args.jobs c.args.machines _ _ c.in_ok-rows.ensures
