use Rattle.inst_text.proofs.WrittenKnapsack.{instance_is_read}
use Rattle.inst_text.proofs.knapsack.laws.written_knapsacks_are_read.Goals as goal

pub returns : goal.returns
returns c = instance_is_read
