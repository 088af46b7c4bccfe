-- Each clause is one of the events.
use Rattle.pq_hunt.proofs.Heap.Events.{event_empty, event_draw, event_draw_last, event_above, event_sift, event_fill}
use Rattle.pq_hunt.proofs.laws.removals_keep_the_heap.Goals as goal

pub returns-clause-empty : goal.returns-clause-empty
returns-clause-empty c = event_empty

pub returns-clause-draw : goal.returns-clause-draw
returns-clause-draw c = event_draw

pub returns-clause-last : goal.returns-clause-last
returns-clause-last c = event_draw_last

pub returns-clause-above : goal.returns-clause-above
returns-clause-above c = event_above

pub returns-clause-sift : goal.returns-clause-sift
returns-clause-sift c = event_sift

pub returns-clause-fill : goal.returns-clause-fill
returns-clause-fill c = event_fill
