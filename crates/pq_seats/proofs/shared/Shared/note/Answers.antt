use Rattle.std.proofs.Common.{arith}
use Rattle.pq_seats.proofs.Dealing.{notes}
use Rattle.pq_seats.proofs.shared.Shared.note.Goals as goal

pub split_seat-requires : goal.split_seat-requires
split_seat-requires g c = let size = c.args.self.now.sized.0 in let wide = c.args.self.now.wide in
    (c.requires.own.table, omega arith, notes g.R.SeatRule.rule _ _ c.args.pass.now.seat.me.0 g.R.SeatRule.lawful)
