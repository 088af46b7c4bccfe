use Rattle.std.proofs.Common.{◌≡◌, ◌+◌, drop}
use Rattle.bb_knap.specs.Plans.{weight_of, value_of}
use Rattle.bb_knap.proofs.knapsack.Knapsack.load_of.Given as goal

-- the sums so far and those of the numbers that are left make up the choice's
abbrev pub invariant-loop-number : goal.invariant-loop-number
invariant-loop-number l = record {
  weight : l.weight + weight_of l.items (drop l.number-index l.choice) ≡ weight_of l.items l.choice;
  value : l.value + value_of l.items (drop l.number-index l.choice) ≡ value_of l.items l.choice;
}
