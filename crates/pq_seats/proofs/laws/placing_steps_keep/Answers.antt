use Rattle.pq_seats.proofs.Drawing.{placed}
use Rattle.pq_seats.proofs.laws.placing_steps_keep.Goals as goal

pub returns : goal.returns
returns g c = λ k s h id v act b own x at seated places longer room. placed g.R.SeatRule.rule k s h id v at act b own x places g.R.SeatRule.lawful seated longer room
