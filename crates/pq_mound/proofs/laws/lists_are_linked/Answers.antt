-- Each clause is one of the events.
use Rattle.pq_mound.proofs.Links.{own_stores, joins_link, stores_rest, takes_link, swaps_link, ends_link}
use Rattle.pq_mound.proofs.Links.{chain_other}
use Rattle.pq_mound.proofs.laws.lists_are_linked.Goals as goal

pub returns-clause-own : goal.returns-clause-own
returns-clause-own c = own_stores

pub returns-clause-join : goal.returns-clause-join
returns-clause-join c = joins_link

pub returns-clause-store : goal.returns-clause-store
returns-clause-store c = stores_rest

pub returns-clause-take : goal.returns-clause-take
returns-clause-take c = takes_link

pub returns-clause-swap : goal.returns-clause-swap
returns-clause-swap c = swaps_link

pub returns-clause-end : goal.returns-clause-end
returns-clause-end c = ends_link

pub returns-clause-other : goal.returns-clause-other
returns-clause-other c = chain_other
