-- Each clause is one of the events.
use Rattle.pq_hunt.proofs.Heap.Events.{event_open, event_quiet}
use Rattle.pq_hunt.proofs.laws.heaps_open_and_end.Goals as goal

pub returns-clause-new : goal.returns-clause-new
returns-clause-new c = event_open

pub returns-clause-quiet : goal.returns-clause-quiet
returns-clause-quiet c = event_quiet
