use Rattle.bb_shop.specs.Loading.{unloaded}
use Rattle.bb_shop.specs.TreeLawsHold.States.{get_or-same}
use Rattle.bb_shop.proofs.shop.Shop.bound_with.Goals as goal

pub bound_over-requires-clause-none : goal.bound_over-requires-clause-none
bound_over-requires-clause-none g c = λ m. get_or-same g.row.N m unloaded
