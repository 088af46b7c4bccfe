-- Which words are which command.
use Rattle.std.specs.Prelude.{ℕ, ◌≡◌, ◌&&◌, if◌then◌else◌, List, [], ◌∷◌, map, codes, Option, Some, None}
use Rattle.std.specs.Prelude.{Result, Ok, Err, is_none, String, string_bytes}
use Rattle.std.specs.Str.{bytes_eq}
use Rattle.std.specs.declared.alloc.Global.{Global}
use Rattle.cli_words.specs.declared.command.Kind.{Kind}
use Rattle.cli_words.specs.declared.command.Kind.TheVariants.{Knapsack, Shop}
use Rattle.cli_words.specs.declared.command.Command.{Command}
use Rattle.cli_words.specs.declared.command.Command.TheVariants.{Solve, Bound, Check, Prove, Verify}
use Rattle.cli_words.specs.declared.command.Command.TheVariants.{Trace, Audit, Make, Drill}
use Rattle.cli_words.specs.declared.reading.WordsRefusal.{WordsRefusal}
use Rattle.cli_words.specs.declared.reading.WordsRefusal.TheVariants.{BadWords, NoMemory}
use Rattle.cli_words.specs.declared.settings.Settings.{Settings}
use Rattle.cli_words.specs.Words.{◌>>=◌, settings_from, is_unlimited, is_unmade, is_silent}
use Rattle.cli_words.specs.Queues.{queue_for, with_threads, still_alone}
use Rattle.cli_words.specs.Ranges.{branching_for, workers_for, nodes_for, room_for, capacity_for}
use Rattle.cli_words.specs.Ranges.{size_for, seed_for, inserts_for}

-- the bytes of each word
abbrev pub texts : List (String Global) → List (List ℕ)
texts words = map (λ w. string_bytes w) words

-- a problem, for a shop a branching, and what a search on the queue may have
unfoldable pub solve_from : Settings → Option Command
solve_from said = do
  kind ← said.kind
  branching ← branching_for kind said.branching
  workers ← workers_for (queue_for said.queue) said.workers
  nodes ← nodes_for (queue_for said.queue) said.nodes
  capacity ← room_for (queue_for said.queue) workers nodes said.capacity
  if is_unmade said
      then Some (Solve kind branching (queue_for said.queue) workers nodes capacity) else None

-- a problem, and for a shop a branching
unfoldable pub bound_from : Settings → Option Command
bound_from said = do
  kind ← said.kind
  branching ← branching_for kind said.branching
  if is_unlimited said && is_unmade said then Some (Bound kind branching) else None

-- a problem, and no option
unfoldable pub kind_alone : Settings → Option Kind
kind_alone said = do
  kind ← said.kind
  if is_silent said then Some kind else None

unfoldable pub check_from : Settings → Option Command
check_from said = do
  kind ← kind_alone said
  Some (Check kind)

-- the same search, of a knapsack and for a proof
abbrev pub proof_search : Command → Option Command
proof_search (Solve Knapsack branching queue workers nodes capacity) = Some (Prove queue workers nodes capacity)
proof_search _ = None

-- a knapsack, and what a solve has
abbrev pub prove_from : Settings → Option Command
prove_from said = solve_from said >>= proof_search

-- a knapsack, and no option
abbrev pub verify_of : Kind → Option Command
verify_of Knapsack = Some Verify
verify_of Shop = None

unfoldable pub verify_from : Settings → Option Command
verify_from said = kind_alone said >>= verify_of

-- a queue and a capacity
unfoldable pub trace_from : Settings → Option Command
trace_from said = do
  capacity ← capacity_for (queue_for said.queue) said.capacity
  if is_none said.kind && (is_none said.branching && (is_none said.workers && (is_none said.nodes && is_unmade said)))
      then Some (Trace (queue_for said.queue) capacity) else None

-- nothing
unfoldable pub audit_from : Settings → Option Command
audit_from said = if is_none said.kind && is_silent said then Some Audit else None

-- a problem, a seed and a size
unfoldable pub make_from : Settings → Option Command
make_from said = do
  kind ← said.kind
  seed ← seed_for said.seed
  size ← size_for kind said.size
  if is_none said.branching && is_unlimited said then Some (Make kind seed size) else None

-- a queue that needs threads, workers, a seed and a size
unfoldable pub drill_from : Settings → Option Command
drill_from said = do
  queue ← with_threads (queue_for said.queue)
  workers ← workers_for queue said.workers
  seed ← seed_for said.seed
  size ← inserts_for said.size
  if is_none said.kind && (is_none said.branching && (is_none said.nodes && is_none said.capacity))
      then Some (Drill queue workers seed size) else None

abbrev pub nothing : Settings
nothing = record {
  kind = None;
  branching = None;
  queue = None;
  workers = None;
  nodes = None;
  capacity = None;
  seed = None;
  size = None;
}

-- Each command: its name, and what it is with the settings that are said.
abbrev pub commands : List (List ℕ × (Settings → Option Command))
commands =
    (codes "solve", solve_from) ∷ (codes "bound", bound_from) ∷ (codes "check", check_from)
    ∷ (codes "prove", prove_from) ∷ (codes "verify", verify_from) ∷ (codes "trace", trace_from)
    ∷ (codes "audit", audit_from) ∷ (codes "make", make_from) ∷ (codes "drill", drill_from) ∷ []

-- the names of the commands
abbrev pub command_names : List (List ℕ)
command_names = map (λ c. c.0) commands

-- the one of this name, with these settings
abbrev pub among : List (List ℕ × (Settings → Option Command)) → List ℕ → Settings → Option Command
among [] name said = None
among (c ∷ more) name said = if bytes_eq name c.0 then c.1 said else among more name said

-- the command of this name with these settings
abbrev pub command_from : List ℕ → Settings → Option Command
command_from name said = among commands name said

-- The command that the words say; None where no command reads them.
unfoldable pub command_of : List (List ℕ) → Option Command
command_of [] = None
command_of (name ∷ words) = settings_from nothing words >>= command_from name

-- the command that the words say, where it needs no threads
abbrev pub still_command_of : List (List ℕ) → Option Command
still_command_of words = command_of words >>= still_alone

-- What reading the words answers: a command exactly where they say one. There may be no memory to read them.
abbrev pub IsReadAs : Option Command → Result Command WordsRefusal → Type 0
IsReadAs said (Ok command) = said ≡ Some command
IsReadAs said (Err BadWords) = said ≡ None
IsReadAs said (Err NoMemory) = Unit {0}
