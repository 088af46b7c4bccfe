use Rattle.bb_shared.proofs.Free.{stays_free}
use Rattle.bb_shared.proofs.laws.other_numbers_stay_free.Goals as goal

pub returns : goal.returns
returns g c = stays_free
