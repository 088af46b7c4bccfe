use Rattle.pq_numbers.proofs.Tiles.{cover}
use Rattle.bb_shared.proofs.laws.joined_draws_cover.Goals as goal

pub returns : goal.returns
returns c = cover
