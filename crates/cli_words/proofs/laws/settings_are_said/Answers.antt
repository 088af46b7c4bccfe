use Rattle.cli_words.proofs.SayingsRead.{read_is_said, said_is_read}
use Rattle.cli_words.proofs.laws.settings_are_said.Goals as goal

pub returns : goal.returns
returns c = λ words said. (read_is_said words _ said, said_is_read words _ said)
