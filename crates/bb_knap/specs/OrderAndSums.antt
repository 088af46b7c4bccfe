-- What a knapsack keeps beside its instance.
use Rattle.std.specs.Prelude.{ℕ, ◌≡◌, List}
use Rattle.inst_text.specs.Knapsack.{Instance}
use Rattle.bb_knap.specs.Plans.{weight_of, value_of}
use Rattle.bb_knap.specs.Order.{order_of}
use Rattle.bb_knap.specs.Sums.{AreSums}

-- the items' order, and the sums of weights and of values over it
pub record IsOrderAndSums (i : Instance) (order weights values : List ℕ) : Type 0 where
  pub order_is : order ≡ order_of i.items
  pub weight_sums : AreSums (weight_of i.items) order weights
  pub value_sums : AreSums (value_of i.items) order values
