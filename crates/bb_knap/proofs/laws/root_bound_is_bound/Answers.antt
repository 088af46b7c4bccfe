use Rattle.bb_knap.specs.TreeLawsHold.Tree.{root_bounds}
use Rattle.bb_knap.proofs.laws.root_bound_is_bound.Goals as goal

pub returns : goal.returns
returns c = root_bounds
