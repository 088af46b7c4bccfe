-- The kinds of queues: their names, what each of them allows a command, and which a command uses.
use Rattle.std.specs.Prelude.{ℕ, ◌≡◌, Bool, true, false, if◌then◌else◌, List, codes, Option, Some, None, unwrap_or}
use Rattle.std.specs.Str.{bytes_eq}
use Rattle.pq_model.specs.Limits.{max_seats, max_capacity}
use Rattle.bb_shared.specs.Limits.{max_nodes}
use Rattle.cli_words.specs.declared.queues.Which.{Which}
use Rattle.cli_words.specs.declared.queues.Which.TheVariants.{Plain, Hunt}
use Rattle.cli_words.specs.declared.queues.Profile.{Profile}
use Rattle.cli_words.specs.declared.command.Command.{Command}
use Rattle.cli_words.specs.declared.command.Command.TheVariants.{Solve, Bound, Check, Prove, Verify}
use Rattle.cli_words.specs.declared.command.Command.TheVariants.{Trace, Audit, Make, Drill}

-- the queue of this name
abbrev pub which_of : List ℕ → Option Which
which_of word =
    if bytes_eq word (codes "plain") then Some Plain
    else if bytes_eq word (codes "hunt") then Some Hunt
    else None

-- what a queue of this kind allows
abbrev pub profile_of : Which → Profile
profile_of Plain = record {
  most_callers = 1;
  default_workers = 1;
  most_capacity = max_capacity;
  default_capacity = 1024;
  most_nodes = max_nodes;
  default_nodes = 100000;
  needs_threads = false;
}
profile_of Hunt = record {
  most_callers = max_seats;
  default_workers = 4;
  most_capacity = max_capacity;
  default_capacity = 1024;
  most_nodes = max_nodes;
  default_nodes = 100000;
  needs_threads = true;
}

-- the queue where none is said
abbrev pub default_queue : Which
default_queue = Hunt

-- the queue that is said
abbrev pub queue_for : Option Which → Which
queue_for said = unwrap_or said default_queue

-- the queue, where it needs threads
abbrev pub with_threads : Which → Option Which
with_threads queue = if (profile_of queue).needs_threads then Some queue else None

-- the queue that a command uses, if any
abbrev pub queue_of : Command → Option Which
queue_of (Solve kind branching queue workers nodes capacity) = Some queue
queue_of (Prove queue workers nodes capacity) = Some queue
queue_of (Trace queue capacity) = Some queue
queue_of (Drill queue workers seed size) = Some queue
queue_of (Bound kind branching) = None
queue_of (Check kind) = None
queue_of Verify = None
queue_of Audit = None
queue_of (Make kind seed size) = None

-- whether what is used, if anything, needs threads
abbrev pub is_threaded : Option Which → Bool
is_threaded None = false
is_threaded (Some queue) = (profile_of queue).needs_threads

-- whether a command uses a queue that needs threads
abbrev pub needs_threads : Command → Bool
needs_threads command = is_threaded (queue_of command)

-- the command, where it needs no threads
abbrev pub still_alone : Command → Option Command
still_alone command = if needs_threads command then None else Some command

-- a command needs no threads
abbrev pub IsStill : Command → Type 0
IsStill command = needs_threads command ≡ false
