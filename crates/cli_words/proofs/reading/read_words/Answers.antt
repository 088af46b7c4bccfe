use Rattle.std.proofs.Common.{◌≡◌, ◌∙◌, true, false, sym, subst, IfOk}
use Rattle.clap.specs.Faults.{fault_of, is_simple_and_free}
use Rattle.clap.specs.Kinds.{FailsBy}
use Rattle.clap.specs.Words.{App, HasMatchesOf}
use Rattle.cli_words.specs.CommandWords.{command_of, texts, IsReadAs}
use Rattle.cli_words.specs.Parser.{has_end}
use Rattle.cli_words.proofs.ClapReads.{clap_reads}
use Rattle.cli_words.proofs.ClapTop.{is_free_parser}
use Rattle.cli_words.proofs.reading.read_words.Goals as goal

pub returns-clause-exact : goal.returns-clause-exact
returns-clause-exact c =
    let words = texts c.args.words.now in
    let parsed = c.try_get_matches_from.result in
    let ends : has_end words ≡ false = sym c.has_end.ensures ∙ c.if-has_end.false in
    let app = c.in_ok-parser.ensures in
    let free = subst (λ (a : App). is_simple_and_free a ≡ true) (sym app) is_free_parser in
    let fails = subst (λ (a : App). FailsBy (fault_of a words) parsed) app (c.try_get_matches_from.ensures.kinds free) in
    let has = subst (λ (a : App). IfOk parsed (HasMatchesOf a words)) app c.try_get_matches_from.ensures.matches in
    subst (IsReadAs (command_of words)) (sym c.answer_in.ensures.exact) (clap_reads words parsed ends fails has)
