use Rattle.std.proofs.Common.{◌≡◌, drop, map}
use Rattle.std.specs.Prelude.{max}
use Rattle.bb_shop.specs.Bounds.{greatest}
use Rattle.bb_shop.specs.Loading.{machine_bound_of}
use Rattle.bb_shop.proofs.machine_load.greatest_machine_bound.Given as goal

abbrev pub invariant-loop-load : goal.invariant-loop-load
invariant-loop-load l = max l.greatest (greatest (drop l.load-index (map machine_bound_of l.loads))) ≡ greatest (map machine_bound_of l.loads)
