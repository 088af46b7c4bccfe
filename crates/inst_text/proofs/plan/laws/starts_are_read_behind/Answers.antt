use Rattle.inst_text.proofs.WrittenPlans.{starts_behind_are_read}
use Rattle.inst_text.proofs.plan.laws.starts_are_read_behind.Goals as goal

pub returns : goal.returns
returns c = starts_behind_are_read
