use Rattle.std.proofs.Common.{◌≡◌, drop}
use Rattle.std.specs.Prelude.{max}
use Rattle.bb_shop.specs.Bounds.{greatest}
use Rattle.bb_shop.proofs.bounding.greatest_of.Given as goal

abbrev pub invariant-loop-number : goal.invariant-loop-number
invariant-loop-number l = max l.greatest (greatest (drop l.number-index l.numbers)) ≡ greatest l.numbers
