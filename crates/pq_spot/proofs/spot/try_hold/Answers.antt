use Rattle.std.proofs.Common.{ℕ, arith, sym, subst}
use Rattle.pq_spot.specs.Passes.{IsTried}
use Rattle.pq_spot.proofs.Allows.{may_take}
use Rattle.pq_spot.proofs.Opening.{tried_is}
use Rattle.pq_spot.proofs.spot.try_hold.Goals as goal

pub try_lock-requires-clause-allowed : goal.try_lock-requires-clause-allowed
try_lock-requires-clause-allowed c = let own = c.requires.rests.0 in let low = own.seated.0 in let named = own.named in
    may_take c.args.table.now.table.shared.key c.args.pass.now.seat.id c.args.pass.now.seat.me.0 (λ z. omega arith)

pub returns-clause-tried : goal.returns-clause-tried
returns-clause-tried c = let v = c.args.pass.now.seat.me.0 in let w = c.try_lock.new.pass.seat.me.0 in
    subst (λ (n : ℕ). IsTried n c.try_lock.result v w) (sym c.try_lock.ensures.same.0) (tried_is c.args.pass.now.number v w c.try_lock.result c.requires.rests.1 c.try_lock.ensures.answer)
