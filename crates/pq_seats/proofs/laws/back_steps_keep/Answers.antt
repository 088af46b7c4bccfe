use Rattle.pq_seats.proofs.SendingBack.{back_sent}
use Rattle.pq_seats.proofs.laws.back_steps_keep.Goals as goal

pub returns : goal.returns
returns g c = λ k s h id v owner own i x at seated far no_lock sends. back_sent g.R.SeatRule.rule k s h id v at seated owner own i x far no_lock sends
