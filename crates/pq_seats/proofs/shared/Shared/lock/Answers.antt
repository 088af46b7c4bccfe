use Rattle.std.proofs.Common.{ℕ, subst, sym}
use Rattle.pq_seats.specs.Allowed.{MayTake}
use Rattle.pq_seats.proofs.Locking.{may_still}
use Rattle.pq_seats.proofs.shared.Shared.lock.Goals as goal

pub try_lock-requires-clause-allowed : goal.try_lock-requires-clause-allowed
try_lock-requires-clause-allowed g c = let R = g.R.SeatRule.rule in let k = c.args.self.now.table.shared.key in let inv = c.loop.invariant in
    subst (λ (z : ℕ). MayTake R k z c.loop.pass.seat.me.0 c.args.word) (sym inv.id) (may_still R k c.args.pass.now.seat.id c.args.pass.now.seat.me.0 c.loop.pass.seat.me.0 c.args.word inv.alike c.requires.allowed)
