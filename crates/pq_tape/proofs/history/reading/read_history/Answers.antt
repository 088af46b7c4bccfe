use Rattle.std.proofs.Common.{subst}
use Rattle.pq_io.specs.Reading.{Gives}
use Rattle.pq_tape.proofs.HistoryTexts.{is_spelled, is_limited, history_is_read}
use Rattle.pq_tape.proofs.history.reading.read_history.Goals as goal

pub returns-clause-limits : goal.returns-clause-limits
returns-clause-limits c = is_limited c.args.bytes.now c.whole_history.result c.whole_history.ensures

pub returns-clause-spelled : goal.returns-clause-spelled
returns-clause-spelled c = is_spelled c.args.bytes.now c.whole_history.result c.whole_history.ensures

pub returns-clause-read : goal.returns-clause-read
returns-clause-read c = λ h is. subst (λ r. Gives (λ j. j) c.whole_history.result r) (history_is_read c.args.bytes.now h is) c.whole_history.ensures
