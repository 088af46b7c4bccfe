-- The limits of instances, plans and scripts, each once.
use Rattle.std.specs.Prelude.{ℕ}
use Rattle.pq_model.specs.Limits.{max_seats}

-- how many items a knapsack has at most
abbrev pub max_items : ℕ
max_items = 1024

-- the greatest weight of an item
abbrev pub max_weight : ℕ
max_weight = 1000000000

-- how much a knapsack takes at most
abbrev pub max_knapsack_capacity : ℕ
max_knapsack_capacity = 1000000000000

-- how many jobs a shop has at most
abbrev pub max_jobs : ℕ
max_jobs = 100

-- how many machines a shop has at most
abbrev pub max_machines : ℕ
max_machines = 100

-- how many operations a shop has at most
abbrev pub max_operations : ℕ
max_operations = 1024

-- what the values of all items, or the times of all operations, add up to at most; no start time is above it either
abbrev pub max_total : ℕ
max_total = 67108863

-- the greatest number that may be stated for a plan
abbrev pub max_stated : ℕ
max_stated = 4294967295

-- how many lanes a script has at most: one for each seat of a queue
abbrev pub max_lanes : ℕ
max_lanes = max_seats

-- how many commands the lanes of a script have at most, all together
abbrev pub max_commands : ℕ
max_commands = 1048576

-- the greatest size of a shop that is made
abbrev pub max_made_shop : ℕ
max_made_shop = 32

-- the greatest weight and the greatest value of an item that is made
abbrev pub max_made_number : ℕ
max_made_number = 100

-- the greatest time of an operation that is made
abbrev pub max_made_time : ℕ
max_made_time = 20

-- how many inserts a lane that is made has at most
abbrev pub max_made_inserts : ℕ
max_made_inserts = 1000
