-- Each clause is one of the events.
use Rattle.pq_hunt.proofs.Heap.Events.{event_full, event_leaf, event_climb, event_settle, event_look, event_lost}
use Rattle.pq_hunt.proofs.laws.inserts_keep_the_heap.Goals as goal

pub returns-clause-full : goal.returns-clause-full
returns-clause-full c = event_full

pub returns-clause-leaf : goal.returns-clause-leaf
returns-clause-leaf c = event_leaf

pub returns-clause-climb : goal.returns-clause-climb
returns-clause-climb c = event_climb

pub returns-clause-settle : goal.returns-clause-settle
returns-clause-settle c = event_settle

pub returns-clause-look : goal.returns-clause-look
returns-clause-look c = event_look

pub returns-clause-lost : goal.returns-clause-lost
returns-clause-lost c = event_lost
