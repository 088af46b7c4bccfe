use Rattle.std.proofs.Common.{length, arith}
use Rattle.bb_knap.proofs.Totals.{value_of-le}
use Rattle.bb_knap.proofs.laws.value_and_cost_are_all.Goals as goal

pub returns : goal.returns
returns c = λ i choice chosen. omega (arith, value_of-le i.items (length i.items) choice chosen)
