use Rattle.pq_api.proofs.Replayed.{size_bounded}
use Rattle.pq_api.proofs.laws.sizes_are_bounded.Goals as goal

pub returns : goal.returns
returns c = size_bounded
