use Rattle.bb_pool.proofs.Numbers.{within_names}
use Rattle.bb_pool.proofs.laws.numbers_are_names.Goals as goal

pub returns : goal.returns
returns c = within_names
