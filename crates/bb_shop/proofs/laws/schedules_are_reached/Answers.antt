use Rattle.bb_shop.specs.TreeLawsHold.Reaching.{reached}
use Rattle.bb_shop.proofs.laws.schedules_are_reached.Goals as goal

pub returns : goal.returns
returns c = reached
