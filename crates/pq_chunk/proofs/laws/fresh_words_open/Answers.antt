use Rattle.pq_chunk.proofs.Starting.{fresh_words_open}
use Rattle.pq_chunk.proofs.laws.fresh_words_open.Goals as goal

pub returns : goal.returns
returns c = fresh_words_open
