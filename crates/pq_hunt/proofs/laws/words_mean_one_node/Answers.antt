-- No two words share a number.
use Rattle.pq_hunt.proofs.Heap.Meanings.{one_meaning}
use Rattle.pq_hunt.proofs.laws.words_mean_one_node.Goals as goal

pub returns : goal.returns
returns c = one_meaning
