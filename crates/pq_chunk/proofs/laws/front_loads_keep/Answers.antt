use Rattle.pq_chunk.proofs.FrontSteps.{front_loads_keep}
use Rattle.pq_chunk.proofs.laws.front_loads_keep.Goals as goal

pub returns : goal.returns
returns c = front_loads_keep
