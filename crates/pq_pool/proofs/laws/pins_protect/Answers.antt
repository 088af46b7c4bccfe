use Rattle.pq_pool.proofs.Protecting.{protects}
use Rattle.pq_pool.proofs.laws.pins_protect.Goals as goal

pub returns : goal.returns
returns c = protects
