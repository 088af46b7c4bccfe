use Rattle.pq_seats.proofs.Owning.{own_stays}
use Rattle.pq_seats.proofs.laws.own_steps_keep.Goals as goal

pub returns : goal.returns
returns g c = λ k s h id v p i x at seated far no_lock change tied. own_stays g.R.SeatRule.rule k g.R.SeatRule.lawful s h id v p at seated change i x far no_lock tied
