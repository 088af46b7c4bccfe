use Rattle.pq_tape.proofs.PlainHistory.{plain_is_read}
use Rattle.pq_tape.proofs.history.laws.written_histories_are_read.Goals as goal

pub returns : goal.returns
returns c = plain_is_read
