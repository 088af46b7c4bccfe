use Rattle.pq_cli.proofs.OneTrace.{traces_are_one}
use Rattle.pq_cli.proofs.laws.traces_are_one.Goals as goal

pub returns : goal.returns
returns c capacity acts h k one other = traces_are_one capacity acts h k one other
