-- Each clause is one of the events.
use Rattle.pq_mound.proofs.Events.{event_open}
use Rattle.pq_mound.proofs.laws.mounds_open.Goals as goal

pub returns : goal.returns
returns c = event_open
