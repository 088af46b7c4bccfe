-- Each clause is one of the events.
use Rattle.pq_mound.proofs.Events.{event_hands}
use Rattle.pq_mound.proofs.laws.cells_change_hands.Goals as goal

pub returns : goal.returns
returns c = event_hands
