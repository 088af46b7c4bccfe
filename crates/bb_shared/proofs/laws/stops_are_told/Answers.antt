use Rattle.bb_shared.proofs.Costs.{stop_in_word}
use Rattle.bb_shared.proofs.laws.stops_are_told.Goals as goal

pub returns : goal.returns
returns c = stop_in_word
