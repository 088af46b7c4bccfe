use Rattle.inst_text.proofs.WrittenPlans.{choice_text_is_read}
use Rattle.inst_text.proofs.plan.laws.written_choices_are_read.Goals as goal

pub returns : goal.returns
returns c = choice_text_is_read
