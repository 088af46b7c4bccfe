-- the names are the commands', and those from this one on make the whole
use Rattle.std.proofs.Common.{◌≡◌, drop, fold}
use Rattle.clap.specs.Words.{app_of}
use Rattle.cli_words.specs.CommandWords.{command_names}
use Rattle.cli_words.specs.Parser.{parser_app, with_command}
use Rattle.cli_words.proofs.ClapApp.{AreNames}
use Rattle.cli_words.proofs.command_line.parser.Given as goal

abbrev pub invariant-loop-name : goal.invariant-loop-name
invariant-loop-name l = AreNames l.name-items × (fold with_command (app_of l.app) (drop l.name-index command_names) ≡ parser_app)
