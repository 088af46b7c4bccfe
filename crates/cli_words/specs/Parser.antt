-- What clap is told of the words, and what is read of what it found.
use Rattle.std.specs.Prelude.{Bool, List, codes, fold, Option, Some, None, true, Result, Ok, Err}
use Rattle.std.specs.List.{list_any}
use Rattle.std.specs.Option.{ok_or}
use Rattle.std.specs.Str.{bytes_eq}
use Rattle.clap.specs.Words.{App, Row, Rule, Text, first_of, kind_of as error_kind_of, new_app, new_rule}
use Rattle.clap.specs.Words.{subcommand_rows_of, with_rule, with_subcommand}
use Rattle.clap.specs.Simple.{on_top}
use Rattle.clap.specs.declared.builder.action.ArgAction.TheVariants.{Set}
use Rattle.clap.specs.declared.error.Error.{Error}
use Rattle.clap.specs.declared.error.kind.ErrorKind.{ErrorKind}
use Rattle.clap.specs.declared.error.kind.ErrorKind.TheVariants as kinds
use Rattle.clap.specs.declared.parser.matches.ArgMatches.{ArgMatches}
use Rattle.cli_words.specs.declared.command.Command.{Command}
use Rattle.cli_words.specs.declared.settings.Settings.{Settings}
use Rattle.cli_words.specs.declared.reading.WordsRefusal.{WordsRefusal}
use Rattle.cli_words.specs.declared.reading.WordsRefusal.TheVariants.{BadWords, NoMemory}
use Rattle.cli_words.specs.CommandWords.{command_from, command_names}
use Rattle.cli_words.specs.Queues.{which_of}
use Rattle.cli_words.specs.Words.{◌>>=◌, kind_of, branching_of, number_in}

-- an option: a text, which is given at most once
abbrev pub option_rule : Text → Rule
option_rule name = record (new_rule name) { long = Some name; action = Some Set }

-- a problem, by its place
abbrev pub kind_rule : Rule
kind_rule = record (new_rule (codes "kind")) { action = Some Set }

-- a command with its words
abbrev pub worded_app : Text → App
worded_app name =
    with_rule (with_rule (with_rule (with_rule (with_rule (with_rule (with_rule (with_rule (new_app name)
    kind_rule) (option_rule (codes "branching"))) (option_rule (codes "queue"))) (option_rule (codes "workers")))
    (option_rule (codes "nodes"))) (option_rule (codes "capacity"))) (option_rule (codes "seed")))
    (option_rule (codes "size"))

-- with one more command
abbrev pub with_command : App → Text → App
with_command a name = with_subcommand a (worded_app name).top

-- the whole command line, without a word that asks for help
abbrev pub bare_app : App
bare_app = on_top (λ s. record s {
  no_binary_name = true;
  disable_help_flag = true;
  disable_help_subcommand = true;
  subcommand_required = true;
}) (new_app (codes "vogbare"))

-- with each command
abbrev pub parser_app : App
parser_app = fold with_command bare_app command_names

-- one of the words is the end of the options, behind which clap would take each word as it stands
abbrev pub has_end : List Text → Bool
has_end words = list_any (λ w. bytes_eq w (codes "--")) words

-- a text that was found, if any, read
abbrev pub read_of : {A : Type 0} → (Text → Option A) → Option Text → Option (Option A)
read_of read None = Some None
read_of read (Some text) = read text >>= λ value. Some (Some value)

-- the settings that were found, where each text reads as one
abbrev pub settings_in : List Row → Option Settings
settings_in rows = do
  kind ← read_of kind_of (first_of (codes "kind") rows)
  branching ← read_of branching_of (first_of (codes "branching") rows)
  queue ← read_of which_of (first_of (codes "queue") rows)
  workers ← read_of number_in (first_of (codes "workers") rows)
  nodes ← read_of number_in (first_of (codes "nodes") rows)
  capacity ← read_of number_in (first_of (codes "capacity") rows)
  seed ← read_of number_in (first_of (codes "seed") rows)
  size ← read_of number_in (first_of (codes "size") rows)
  Some (record {
    kind = kind;
    branching = branching;
    queue = queue;
    workers = workers;
    nodes = nodes;
    capacity = capacity;
    seed = seed;
    size = size;
  })

-- the command that was found: its name, and what stands behind it
abbrev pub command_found : Option (Text × List Row) → Option Command
command_found None = None
command_found (Some p) = settings_in p.1 >>= command_from p.0

-- Whatever clap finds amiss is bad words, but that it has no memory.
abbrev pub refusal_of : ErrorKind → WordsRefusal
refusal_of kinds.OutOfMemory = NoMemory
refusal_of _ = BadWords

-- what is answered to what clap answers
abbrev pub answer_in : Result ArgMatches Error → Result Command WordsRefusal
answer_in (Ok matches) = ok_or (command_found (subcommand_rows_of matches)) BadWords
answer_in (Err error) = Err (refusal_of (error_kind_of error))
