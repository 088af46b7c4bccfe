use Rattle.pq_chunk.proofs.Walking.{within_keeps}
use Rattle.pq_chunk.proofs.laws.within_keeps.Goals as goal

pub returns : goal.returns
returns c = within_keeps
