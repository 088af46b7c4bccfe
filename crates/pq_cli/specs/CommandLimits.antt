-- The limits of a search, a drill and a queue that a command uses.
use Rattle.std.specs.Prelude.{ℕ, ◌≡◌, ◌+◌, ◌≤◌, min}
use Rattle.bb_pool.specs.Limits.{max_nodes}
use Rattle.inst_text.specs.Limits.{max_made_inserts}
use Rattle.pq_lanes.specs.Drills.{drill_capacity}
use Rattle.cli_words.specs.declared.command.Command.{Command}
use Rattle.cli_words.specs.declared.command.Command.TheVariants.{Solve, Prove, Trace, Drill}
use Rattle.cli_words.specs.declared.limits.Limits.{Limits}
use Rattle.cli_words.specs.declared.queues.Which.TheVariants.{Plain}
use Rattle.cli_words.specs.Limits.{limits_of, AreLimits, AreWithin}
use Rattle.pq_cli.specs.declared.commands.task.Task.{Task}
use Rattle.pq_cli.specs.declared.commands.task.Task.TheVariants as tasks
use Rattle.pq_cli.specs.Drilling.{drill_nodes}
use Rattle.pq_cli.specs.Tracing.{lanes_on}

-- the limits of the search of a drill
abbrev pub drill_limits : ℕ → Limits
drill_limits workers = limits_of workers drill_nodes (drill_nodes + workers)

-- A drill stays within the limits of a queue of at most so many callers and this capacity: its lanes and its search.
pub record IsDrillWithin (callers capacity workers size : ℕ) : Type 0 where
  pub size_is : size ≤ max_made_inserts
  pub lanes : drill_capacity workers size ≤ capacity
  pub search : AreWithin callers max_nodes capacity (drill_limits workers)

-- what is to be done with a problem, where no threads are needed, is within the limits of the plain queue
abbrev pub HasTaskLimits : Task → Type 0
HasTaskLimits (tasks.Solve limits) = AreLimits Plain limits
HasTaskLimits _ = Unit {0}

-- A command uses a queue, within the limits of one of at most so many callers and this capacity.
abbrev pub IsShared : ℕ → ℕ → Command → Type 0
IsShared callers most (Solve kind branching queue workers nodes capacity) =
    AreWithin callers max_nodes most (limits_of workers nodes capacity)
IsShared callers most (Prove queue workers nodes capacity) =
    AreWithin callers max_nodes most (limits_of workers nodes capacity)
IsShared callers most (Trace queue capacity) =
    (1 ≤ capacity) × (capacity ≤ most) × (lanes_on queue capacity ≡ min callers capacity)
IsShared callers most (Drill queue workers seed size) = IsDrillWithin callers most workers size
IsShared callers most _ = ⊥
