use Rattle.pq_chunk.proofs.FrontSteps.{front_arms_keep}
use Rattle.pq_chunk.proofs.laws.front_arms_keep.Goals as goal

pub returns : goal.returns
returns c = front_arms_keep
