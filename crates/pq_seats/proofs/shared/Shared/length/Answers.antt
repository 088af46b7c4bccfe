use Rattle.std.proofs.Common.{arith}
use Rattle.pq_seats.proofs.Locking.{lengthens}
use Rattle.pq_seats.proofs.shared.Shared.length.Goals as goal

pub load-requires : goal.load-requires
load-requires g c = let seat = c.requires.own in let low = seat.seated.0 in let named = seat.named in let size = c.args.self.now.sized.0 in let wide = c.args.self.now.wide in
    let mine = c.args.pass.now.seat in
    (seat.table, omega arith, lengthens g.R.SeatRule.rule _ _ mine.id mine.me c.requires.plain (λ e. omega arith) c.requires.quiet)
