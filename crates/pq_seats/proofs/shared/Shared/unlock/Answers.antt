use Rattle.std.proofs.Common.{arith}
use Rattle.pq_seats.proofs.Locking.{freed}
use Rattle.pq_seats.proofs.shared.Shared.unlock.Goals as goal

pub store-requires : goal.store-requires
store-requires g c = let size = c.args.self.now.sized.0 in let room = c.requires.held.1 in let mine = c.args.pass.now.seat in
    (c.requires.own.table, omega arith, freed g.R.SeatRule.rule _ _ mine.id mine.me _ g.R.SeatRule.lawful c.requires.held.0 c.requires.allowed)
