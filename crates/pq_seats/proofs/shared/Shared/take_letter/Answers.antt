use Rattle.std.proofs.Common.{ℕ, sym, subst, arith}
use mathlib.Core.Option.{none}
use Rattle.atomic_table.specs.Table.{step, Allows}
use Rattle.pq_seats.specs.Rules.{Holds}
use Rattle.pq_seats.specs.Steps.{takes}
use Rattle.pq_seats.proofs.Leaving.{taking}
use Rattle.pq_seats.proofs.shared.Shared.take_letter.Goals as goal

pub swap-word-requires : goal.swap-word-requires
swap-word-requires g c = let R = g.R.SeatRule.rule in let k = c.args.self.now.table.shared.key in let seat = c.requires.own in let low = seat.seated.0 in let high = seat.seated.1 in let named = seat.named in
    let mine = c.args.pass.now.seat in let slots = c.args.self.now.table.shared.table_id.slots in
    let size = c.args.self.now.sized.0 in let wide = c.args.self.now.wide in let seats = c.args.self.now.seated.0 in let few = c.args.self.now.seated.1.1 in (
      seat.table,
      omega arith,
      subst (λ (z : ℕ). Allows (Holds R k) slots mine.id mine.me z (λ _. 0) (takes R (step slots z 0 0 none) mine.me)) (sym named) (taking R k slots mine.id mine.me g.R.SeatRule.lawful (λ e. omega arith)),
    )
