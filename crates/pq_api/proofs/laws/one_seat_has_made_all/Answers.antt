use Rattle.pq_api.proofs.Alone.{whole_history}
use Rattle.pq_api.proofs.laws.one_seat_has_made_all.Goals as goal

pub returns : goal.returns
returns c = whole_history
