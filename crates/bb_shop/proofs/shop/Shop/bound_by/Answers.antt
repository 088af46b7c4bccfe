use Rattle.std.proofs.Common.{arith}
use Rattle.bb_shop.proofs.shop.Shop.bound_by.Goals as goal

pub bound_with-requires-else-count-le-SOME-clause-places : goal.bound_with-requires-else-count-le-SOME-clause-places
bound_with-requires-else-count-le-SOME-clause-places c = omega (arith, c.requires.each_machine, c.machine_count-count.ensures.within_limits.machines)
