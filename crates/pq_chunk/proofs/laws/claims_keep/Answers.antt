use Rattle.pq_chunk.proofs.FrontSteps.{claims_keep}
use Rattle.pq_chunk.proofs.laws.claims_keep.Goals as goal

pub returns : goal.returns
returns c = claims_keep
