use Rattle.bb_knap.specs.TreeLawsHold.Best.{best_is_attained, best_is_greatest}
use Rattle.pq_cli.proofs.laws.greatest_value_is_best.Goals as goal

pub returns-clause-attained : goal.returns-clause-attained
returns-clause-attained c = λ i. let b = best_is_attained i in (b.choice, b.feasible, b.value)

pub returns-clause-greatest : goal.returns-clause-greatest
returns-clause-greatest c = best_is_greatest
