use Rattle.pq_nodes.proofs.Orders.{root_least, changed, sifted, climbed}
use Rattle.pq_nodes.proofs.laws.tree_orders_keep.Goals as goal

pub returns-clause-least : goal.returns-clause-least
returns-clause-least c = root_least

pub returns-clause-change : goal.returns-clause-change
returns-clause-change c = changed

pub returns-clause-swap : goal.returns-clause-swap
returns-clause-swap c = sifted

pub returns-clause-climb : goal.returns-clause-climb
returns-clause-climb c = climbed
