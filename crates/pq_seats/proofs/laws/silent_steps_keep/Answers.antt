use Rattle.pq_seats.proofs.Owning.{front_stays}
use Rattle.pq_seats.proofs.laws.silent_steps_keep.Goals as goal

pub returns : goal.returns
returns g c = λ k s h id v p front x at seated long change sees tied. front_stays g.R.SeatRule.rule k g.R.SeatRule.lawful s h id v p at seated change front x long sees tied
