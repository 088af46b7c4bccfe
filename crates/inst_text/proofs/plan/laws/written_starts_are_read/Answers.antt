use Rattle.inst_text.proofs.WrittenPlans.{starts_text_is_read}
use Rattle.inst_text.proofs.plan.laws.written_starts_are_read.Goals as goal

pub returns : goal.returns
returns c = starts_text_is_read
