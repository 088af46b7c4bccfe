use Rattle.pq_chunk.proofs.Starting.{totals_fit}
use Rattle.pq_chunk.proofs.laws.totals_fit.Goals as goal

pub returns : goal.returns
returns c = totals_fit
