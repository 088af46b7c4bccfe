-- Each clause is one of the events.
use Rattle.pq_mound.proofs.Events.{event_least, event_empty, event_take, event_swap, event_end}
use Rattle.pq_mound.proofs.laws.removals_keep_the_mound.Goals as goal

pub returns-clause-least : goal.returns-clause-least
returns-clause-least c = event_least

pub returns-clause-empty : goal.returns-clause-empty
returns-clause-empty c = event_empty

pub returns-clause-take : goal.returns-clause-take
returns-clause-take c = event_take

pub returns-clause-swap : goal.returns-clause-swap
returns-clause-swap c = event_swap

pub returns-clause-end : goal.returns-clause-end
returns-clause-end c = event_end
