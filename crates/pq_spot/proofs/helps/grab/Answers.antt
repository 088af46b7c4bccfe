use Rattle.std.proofs.Common.{arith}
use Rattle.pq_spot.proofs.Allows.{may_take}
use Rattle.pq_spot.proofs.helps.grab.Goals as goal

pub lock-requires-clause-allowed : goal.lock-requires-clause-allowed
lock-requires-clause-allowed g c = let own = c.requires.rests.0 in let low = own.seated.0 in let named = own.named in
    may_take c.args.table.now.table.shared.key c.args.pass.now.seat.id c.args.pass.now.seat.me.0 (λ z. omega arith)
