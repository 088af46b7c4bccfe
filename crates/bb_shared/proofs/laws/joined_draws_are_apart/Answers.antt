use Rattle.pq_numbers.proofs.Tiles.{apart}
use Rattle.bb_shared.proofs.laws.joined_draws_are_apart.Goals as goal

pub returns : goal.returns
returns c = apart
