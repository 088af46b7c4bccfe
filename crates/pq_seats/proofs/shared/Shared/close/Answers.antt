use Rattle.std.proofs.Common.{arith}
use Rattle.pq_seats.proofs.Dealing.{ends}
use Rattle.pq_seats.proofs.shared.Shared.close.Goals as goal

pub returns-clause-ended : goal.returns-clause-ended
returns-clause-ended g c = let R = g.R.SeatRule.rule in let seat = c.requires.own in let low = seat.seated.0 in let named = seat.named in let many = seat.counted in let seats = c.args.self.seated.0 in let all = c.requires.all in
    ends R c.args.self.table.shared.key _ _ _ c.args.pass.seat.me.0 (omega arith) c.requires.rests (λ e. omega arith) c.close_with.ensures.values.2
