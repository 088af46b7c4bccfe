use Rattle.std.proofs.Common.{◌≡◌, take}
use Rattle.bb_knap.specs.Order.{order_of}
use Rattle.bb_knap.specs.Branching.{taken}
use Rattle.bb_knap.proofs.plan.plan.Given as goal

-- the numbers so far are those that the decisions take of the first ones
abbrev pub invariant-loop-place : goal.invariant-loop-place
invariant-loop-place l = l.numbers.items ≡ taken (take l.place (order_of l.knapsack.items)) l.node.decisions
