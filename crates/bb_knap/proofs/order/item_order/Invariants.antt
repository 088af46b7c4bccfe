use Rattle.std.proofs.Common.{◌≡◌, ℕ}
use Rattle.bb_problem.specs.Tree.{total}
use Rattle.bb_knap.specs.TreeLawsHold.InOrder.{sum_below}
use Rattle.bb_knap.proofs.order.item_order.Given as goal

-- each number below the next one is there once
abbrev pub invariant-loop-number : goal.invariant-loop-number
invariant-loop-number l = (f : ℕ → ℕ) → total f l.order.items ≡ sum_below f l.number
