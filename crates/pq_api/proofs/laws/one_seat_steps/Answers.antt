use Rattle.pq_api.proofs.Alone.{own_step}
use Rattle.pq_api.proofs.laws.one_seat_steps.Goals as goal

pub returns : goal.returns
returns c = own_step
