use Rattle.std.proofs.Common.{rules, ◌≡◌, ◌∙◌, sym, ap, option_map, Some}
use Rattle.clap.specs.Words.{found_of, rows_of, subcommand_name_of, subcommand_rows}
use Rattle.clap.specs.declared.parser.matches.ArgMatches.TheViews.{out-ArgMatches}
use Rattle.cli_words.specs.Words.{◌>>=◌}
use Rattle.cli_words.specs.Parser.{settings_in}
use Rattle.cli_words.specs.CommandWords.{command_from}
use Rattle.cli_words.proofs.ClapReads.{found_is}
use Rattle.cli_words.proofs.reading.command_in.Goals as goal

pub returns-clause-exact : goal.returns-clause-exact
returns-clause-exact c =
    let m = c.args.matches.now in
    let rows = rows_of (found_of c.in_ok-name.behind.now) in
    let name_is : Some c.in_ok-name.name.now ≡ subcommand_name_of m = search rules in
    let rows_are : Some rows ≡ option_map (λ p. p.1) (subcommand_rows (out-ArgMatches m).subcommand) = search rules in
    let said : settings_in rows ≡ Some c.in_ok-settings_in.field-0 = search rules in
    let bytes : c.as_bytes.result.now ≡ c.in_ok-name.name.now = search rules in
    c.command_from.ensures.exact
    ∙ ap (λ n. command_from n c.in_ok-settings_in.field-0) bytes
    ∙ sym (found_is m c.in_ok-name.name.now rows name_is rows_are ∙ ap (λ o. o >>= command_from c.in_ok-name.name.now) said)
