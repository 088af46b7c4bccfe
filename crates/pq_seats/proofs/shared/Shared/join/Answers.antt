use Rattle.std.proofs.Common.{arith, inr, subst, ℕ}
use Rattle.pq_seats.specs.Views.{HasFirst}
use Rattle.pq_seats.proofs.Dealing.{joins}
use Rattle.pq_seats.proofs.shared.Shared.join.Goals as goal

pub join_seat-requires : goal.join_seat-requires
join_seat-requires g c = let seat = c.requires.own in let low = seat.seated.0 in let named = seat.named in let size = c.args.self.now.sized.0 in let wide = c.args.self.now.wide in
    let other = c.requires.other.0 in let theirs = c.args.other.seat.me.0 in (
      seat.table,
      other.table,
      other.empty,
      omega arith,
      joins g.R.SeatRule.rule _ _ _ c.args.pass.now.seat.me.0 theirs g.R.SeatRule.lawful (λ e. omega arith) c.requires.quiet c.requires.other.1
          (inr (subst (λ (z : ℕ). HasFirst z theirs.lanes) other.named other.first)),
    )
