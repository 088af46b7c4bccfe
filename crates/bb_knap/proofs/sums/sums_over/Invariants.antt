use Rattle.bb_knap.specs.Plans.{weight_of, value_of}
use Rattle.bb_knap.proofs.Prefixes.{AreSumsTo}
use Rattle.bb_knap.proofs.sums.sums_over.Given as goal

-- the sums over the first numbers
abbrev pub invariant-loop-number : goal.invariant-loop-number
invariant-loop-number l = record {
  weights : AreSumsTo (weight_of l.items.items) l.order l.number-index l.weight l.weights.items;
  values : AreSumsTo (value_of l.items.items) l.order l.number-index l.value l.values.items;
}
