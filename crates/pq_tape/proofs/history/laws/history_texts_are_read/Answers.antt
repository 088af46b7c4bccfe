use Rattle.pq_tape.proofs.HistoryTexts.{history_is_spelled, history_is_read}
use Rattle.pq_tape.proofs.history.laws.history_texts_are_read.Goals as goal

pub returns : goal.returns
returns c = λ bytes h. (history_is_spelled bytes h, history_is_read bytes h)
