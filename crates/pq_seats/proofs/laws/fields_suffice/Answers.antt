use Rattle.pq_seats.proofs.Bounds.{fields}
use Rattle.pq_seats.proofs.laws.fields_suffice.Goals as goal

pub returns : goal.returns
returns g c = λ k s h. fields g.R.SeatRule.rule k s h
