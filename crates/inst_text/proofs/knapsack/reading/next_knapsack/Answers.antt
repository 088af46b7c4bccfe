use Rattle.inst_text.proofs.KnapsackText.{instance_fits}
use Rattle.inst_text.proofs.knapsack.reading.next_knapsack.Goals as goal

pub invariant_of-result : goal.invariant_of-result
invariant_of-result c = instance_fits c.args.text.now _ _ c.in_ok-count.ensures c.in_ok-items.ensures
