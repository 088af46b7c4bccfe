use Rattle.std.proofs.Common.{refl}
use Rattle.inst_text.specs.Generator.{next_state}
use Rattle.inst_text.proofs.making.laws.smallest_made.Goals as goal

pub returns-clause-knapsack : goal.returns-clause-knapsack
unfolding next_state
returns-clause-knapsack c = refl

pub returns-clause-shop : goal.returns-clause-shop
unfolding next_state
returns-clause-shop c = refl
