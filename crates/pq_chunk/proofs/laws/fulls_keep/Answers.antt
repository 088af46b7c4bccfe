use Rattle.pq_chunk.proofs.Draws.{fulls_keep}
use Rattle.pq_chunk.proofs.laws.fulls_keep.Goals as goal

pub returns : goal.returns
returns c = fulls_keep
