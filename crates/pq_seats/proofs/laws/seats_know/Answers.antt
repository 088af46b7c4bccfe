use Rattle.pq_seats.proofs.Keeps.{witnessed}
use Rattle.pq_seats.proofs.laws.seats_know.Goals as goal

pub returns : goal.returns
returns g c = λ k s h id v at quiet seated. witnessed g.R.SeatRule.rule k s h id v at quiet seated
