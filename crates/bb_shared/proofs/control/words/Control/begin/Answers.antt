-- A fresh table is under the rule.
use Rattle.bb_shared.proofs.ControlSteps.{opens}
use Rattle.bb_shared.proofs.control.words.Control.begin.Goals as goal

pub of_words-requires : goal.of_words-requires
of_words-requires c = opens c.args.seats
