use Rattle.inst_text.proofs.WrittenPlans.{choice_behind_is_read}
use Rattle.inst_text.proofs.plan.laws.choices_are_read_behind.Goals as goal

pub returns : goal.returns
returns c = choice_behind_is_read
