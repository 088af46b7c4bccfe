-- Each clause is one of the events.
use Rattle.pq_mound.proofs.Events.{event_full, event_join, event_rest}
use Rattle.pq_mound.proofs.laws.inserts_keep_the_mound.Goals as goal

pub returns-clause-full : goal.returns-clause-full
returns-clause-full c = event_full

pub returns-clause-join : goal.returns-clause-join
returns-clause-join c = event_join

pub returns-clause-rest : goal.returns-clause-rest
returns-clause-rest c = event_rest
