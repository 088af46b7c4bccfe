-- The limits of a command's numbers.
use Rattle.std.specs.Prelude.{ℕ, ◌≡◌, ◌≤◌, true}
use Rattle.inst_text.specs.Limits.{max_items, max_made_shop, max_made_inserts}
use Rattle.cli_words.specs.declared.command.Kind.{Kind}
use Rattle.cli_words.specs.declared.command.Kind.TheVariants.{Knapsack, Shop}
use Rattle.cli_words.specs.declared.command.Command.{Command}
use Rattle.cli_words.specs.declared.command.Command.TheVariants.{Solve, Bound, Check, Prove, Verify}
use Rattle.cli_words.specs.declared.command.Command.TheVariants.{Trace, Audit, Make, Drill}
use Rattle.cli_words.specs.declared.limits.Limits.{Limits}
use Rattle.cli_words.specs.declared.queues.Which.{Which}
use Rattle.cli_words.specs.Queues.{profile_of}

-- the limits of a search, from these numbers
abbrev pub limits_of : ℕ → ℕ → ℕ → Limits
limits_of workers nodes capacity = record { workers = workers; nodes = nodes; capacity = capacity }

-- The limits that a search may have which may make so many nodes, over a queue of at most so many callers and this
-- capacity.
pub record AreWithin (callers nodes capacity : ℕ) (limits : Limits) : Type 0 where
  pub workers : (1 ≤ limits.workers) × (limits.workers ≤ callers)
  pub nodes_are : (1 ≤ limits.nodes) × (limits.nodes ≤ nodes)
  pub capacity_is : (limits.workers ≤ limits.capacity) × (limits.capacity ≤ capacity)

-- the limits that a search may have on the queue of this name
abbrev pub AreLimits : Which → Limits → Type 0
AreLimits queue limits =
    AreWithin (profile_of queue).most_callers (profile_of queue).most_nodes (profile_of queue).most_capacity limits

-- the size that something made of this kind may have
abbrev pub IsMadeSize : Kind → ℕ → Type 0
IsMadeSize Knapsack size = size ≤ max_items
IsMadeSize Shop size = (1 ≤ size) × (size ≤ max_made_shop)

-- The numbers that a drill may have on the queue of this name.
pub record IsDrill (queue : Which) (workers size : ℕ) : Type 0 where
  pub several : (profile_of queue).needs_threads ≡ true
  pub workers_are : (1 ≤ workers) × (workers ≤ (profile_of queue).most_callers)
  pub size_is : size ≤ max_made_inserts

-- the numbers of a command are within their limits
abbrev pub HasLimits : Command → Type 0
HasLimits (Solve kind branching queue workers nodes capacity) = AreLimits queue (limits_of workers nodes capacity)
HasLimits (Prove queue workers nodes capacity) = AreLimits queue (limits_of workers nodes capacity)
HasLimits (Trace queue capacity) = (1 ≤ capacity) × (capacity ≤ (profile_of queue).most_capacity)
HasLimits (Drill queue workers seed size) = IsDrill queue workers size
HasLimits (Make kind seed size) = IsMadeSize kind size
HasLimits (Bound kind branching) = Unit {0}
HasLimits (Check kind) = Unit {0}
HasLimits Verify = Unit {0}
HasLimits Audit = Unit {0}
