-- The table of a shop's operations that bounds are taken from.
use Rattle.std.specs.Prelude.{◌≡◌, List, [], ◌∷◌, ◌++◌, map}
use Rattle.inst_text.specs.declared.shop.Operation.{Operation}
use Rattle.inst_text.specs.Shop.{JobShop, IsJobShop, row_time}
use Rattle.bb_shop.specs.declared.prepared_operation.PreparedOperation.{PreparedOperation}

-- the operations of a job, each with its tail, which is the sum of the times after it
abbrev pub prepared_row : List Operation → List PreparedOperation
prepared_row [] = []
prepared_row (o ∷ os) = record { operation = o; tail = row_time os } ∷ prepared_row os

-- the operations of several jobs, one job's after the other's
abbrev pub prepared_rows : List (List Operation) → List PreparedOperation
prepared_rows [] = []
prepared_rows (r ∷ rs) = prepared_row r ++ prepared_rows rs

-- these operations without their tails
abbrev pub operations_in : List PreparedOperation → List Operation
operations_in ps = map (λ (p : PreparedOperation). p.operation) ps

-- each has its tail
abbrev pub HaveTails : List PreparedOperation → Type 0
HaveTails [] = Unit {0}
HaveTails (p ∷ ps) = (p.tail ≡ row_time (operations_in ps)) × HaveTails ps

-- what the program keeps of a shop: its limits, and the table of its operations
pub record IsTable (s : JobShop) (prepared : List PreparedOperation) : Type 0 where
  pub shop : IsJobShop s
  pub operations : prepared ≡ prepared_rows s.rows
