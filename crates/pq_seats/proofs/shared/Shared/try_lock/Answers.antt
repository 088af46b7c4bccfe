use Rattle.std.proofs.Common.{◌≡◌, ◌∙◌, arith}
use Rattle.pq_seats.proofs.Locking.{tried_as}
use Rattle.pq_seats.proofs.shared.Shared.try_lock.Goals as goal

pub compare_exchange-requires : goal.compare_exchange-requires
compare_exchange-requires g c = let seat = c.requires.own in let low = seat.seated.0 in let size = c.args.self.now.sized.0 in let room = c.requires.lock.1 in
    let mine = c.args.pass.now.seat in let same : c.from-number.result ≡ c.args.pass.now.number = c.from-number.ensures in
    (seat.table, omega arith, tried_as g.R.SeatRule.rule _ _ mine.id mine.me _ _ (same ∙ seat.named) g.R.SeatRule.lawful c.requires.lock.0 (λ e. omega arith) c.requires.allowed)
