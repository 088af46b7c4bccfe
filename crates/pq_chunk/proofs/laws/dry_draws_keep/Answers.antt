use Rattle.pq_chunk.proofs.Draws.{dry_draws_keep}
use Rattle.pq_chunk.proofs.laws.dry_draws_keep.Goals as goal

pub returns : goal.returns
returns c = dry_draws_keep
