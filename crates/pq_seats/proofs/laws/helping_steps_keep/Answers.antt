use Rattle.pq_seats.proofs.Helping.{helped}
use Rattle.pq_seats.proofs.laws.helping_steps_keep.Goals as goal

pub returns : goal.returns
returns g c = λ k s h id v hs own x at seated helps. helped g.R.SeatRule.rule k s h g.R.SeatRule.lawful id v at seated hs own x helps
