-- A knapsack whose items are all alike, and whose canonical proof is long.
use Rattle.std.specs.Prelude.{replicate}
use Rattle.inst_text.specs.Knapsack.{Instance}

abbrev pub alike : Instance
alike = record { capacity = 23; items = replicate 23 (record { weight = 2; value = 2 }) }
