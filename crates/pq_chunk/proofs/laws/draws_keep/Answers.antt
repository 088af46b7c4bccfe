use Rattle.pq_chunk.proofs.Draws.{draws_keep}
use Rattle.pq_chunk.proofs.laws.draws_keep.Goals as goal

pub returns : goal.returns
returns c = draws_keep
