use Rattle.pq_chunk.proofs.CountSteps.{counts_keep}
use Rattle.pq_chunk.proofs.laws.counts_keep.Goals as goal

pub returns : goal.returns
returns c = counts_keep
