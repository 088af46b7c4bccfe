use Rattle.std.proofs.Common.{arith, inl}
use Rattle.pq_seats.proofs.Dealing.{joins}
use Rattle.pq_seats.proofs.Resting.{at_rest}
use Rattle.pq_seats.proofs.shared.Shared.read.Goals as goal

pub join_seat-requires : goal.join_seat-requires
join_seat-requires g c = let seat = c.requires.own in let low = seat.seated.0 in let named = seat.named in let size = c.args.self.now.sized.0 in let wide = c.args.self.now.wide in
    let note = c.requires.note in let R = g.R.SeatRule.rule in let laws = g.R.SeatRule.lawful in let theirs = c.args.note.me.0 in
    (seat.table, note.0, note.3, omega arith, joins R _ _ _ c.args.pass.now.seat.me.0 theirs laws (λ e. omega arith) c.requires.quiet (at_rest R theirs.post R.idle 0 laws.idles note.2) (inl note.1))
