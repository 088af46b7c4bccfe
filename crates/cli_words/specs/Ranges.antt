-- The ranges of the settings, and what a setting is where it is not said.
use Rattle.std.specs.Prelude.{ℕ, ◌+◌, if◌then◌else◌, Option, Some, None, unwrap_or}
use Rattle.pq_io.specs.Reading.{is_between}
use Rattle.inst_text.specs.Limits.{max_items, max_made_shop, max_made_inserts}
use Rattle.cli_words.specs.declared.command.Kind.{Kind}
use Rattle.cli_words.specs.declared.command.Kind.TheVariants.{Knapsack, Shop}
use Rattle.cli_words.specs.declared.command.Branching.{Branching}
use Rattle.cli_words.specs.declared.command.Branching.TheVariants.{Dispatch}
use Rattle.cli_words.specs.declared.queues.Which.{Which}
use Rattle.cli_words.specs.Queues.{profile_of}
use Rattle.cli_words.specs.Words.{option_limit}

-- the number, where it lies from low to high
abbrev pub within : ℕ → ℕ → ℕ → Option ℕ
within low high n = if is_between low high n then Some n else None

-- Only a shop has two ways to branch; where none is said, it is by dispatching.
abbrev pub branching_for : Kind → Option Branching → Option Branching
branching_for Shop said = Some (unwrap_or said Dispatch)
branching_for Knapsack None = Some Dispatch
branching_for Knapsack (Some branching) = None

-- how many work at a search over a queue, or at a drill of it: one at least
abbrev pub workers_for : Which → Option ℕ → Option ℕ
workers_for queue said = within 1 (profile_of queue).most_callers (unwrap_or said (profile_of queue).default_workers)

-- how many nodes a search over a queue may make: one at least
abbrev pub nodes_for : Which → Option ℕ → Option ℕ
nodes_for queue said = within 1 (profile_of queue).most_nodes (unwrap_or said (profile_of queue).default_nodes)

-- How many nodes its queue takes: as many as workers at least. Where it is not said, as many as nodes and workers.
abbrev pub room_for : Which → ℕ → ℕ → Option ℕ → Option ℕ
room_for queue workers nodes said = within workers (profile_of queue).most_capacity (unwrap_or said (nodes + workers))

-- how many entries a traced queue takes: one at least
abbrev pub capacity_for : Which → Option ℕ → Option ℕ
capacity_for queue said = within 1 (profile_of queue).most_capacity (unwrap_or said (profile_of queue).default_capacity)

-- how many items are made where it is not said
abbrev pub default_items : ℕ
default_items = 100

-- how many jobs and machines are made where it is not said
abbrev pub default_jobs : ℕ
default_jobs = 6

-- how many items of a knapsack are made, or how many jobs and machines of a shop
abbrev pub size_for : Kind → Option ℕ → Option ℕ
size_for Knapsack said = within 0 max_items (unwrap_or said default_items)
size_for Shop said = within 1 max_made_shop (unwrap_or said default_jobs)

-- the seed of what is made where it is not said
abbrev pub default_seed : ℕ
default_seed = 0

-- the seed of what is made
abbrev pub seed_for : Option ℕ → Option ℕ
seed_for said = within 0 option_limit (unwrap_or said default_seed)

-- how many entries each lane of a drill inserts where it is not said
abbrev pub default_inserts : ℕ
default_inserts = 1000

-- how many entries each lane of a drill inserts
abbrev pub inserts_for : Option ℕ → Option ℕ
inserts_for said = within 0 max_made_inserts (unwrap_or said default_inserts)
