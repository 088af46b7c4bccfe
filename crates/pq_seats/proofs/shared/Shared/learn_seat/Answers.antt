use Rattle.std.proofs.Common.{arith}
use Rattle.pq_seats.proofs.Locking.{learned}
use Rattle.pq_seats.proofs.shared.Shared.learn_seat.Goals as goal

pub load-requires : goal.load-requires
load-requires g c = let low = c.requires.seated in let size = c.args.self.now.sized.0 in let wide = c.args.self.now.wide in
    let mine = c.args.seat.now in
    (c.requires.table, omega arith, learned g.R.SeatRule.rule _ _ mine.id mine.me (λ e. omega arith) c.requires.quiet)
