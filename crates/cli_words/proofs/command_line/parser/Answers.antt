use Rattle.cli_words.proofs.ClapApp.{next_command}
use Rattle.cli_words.proofs.command_line.parser.Goals as goal

pub loop-name-preserved : goal.loop-name-preserved
loop-name-preserved c =
    let v = c.loop-name.invariant in (
      v.0,
      next_command _ c.loop-name.name-index _ _ _ v.0 c.loop-name-test.true v.1 c.in_ok-app.ensures c.in_ok-worded.ensures.app c.in_ok-worded.ensures.local,
    )
