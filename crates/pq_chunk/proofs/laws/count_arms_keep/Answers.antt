use Rattle.pq_chunk.proofs.Walking.{count_arms_keep}
use Rattle.pq_chunk.proofs.laws.count_arms_keep.Goals as goal

pub returns : goal.returns
returns c = count_arms_keep
