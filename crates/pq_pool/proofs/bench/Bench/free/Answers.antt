use Rattle.std.proofs.Common.{ℕ, arith, subst}
use Rattle.pq_pool.specs.States.{Agrees}
use Rattle.pq_pool.proofs.BenchAllows.{may_free, freed_is_loose}
use Rattle.pq_pool.proofs.bench.Bench.free.Goals as goal

pub unlock-requires-clause-allowed : goal.unlock-requires-clause-allowed
unlock-requires-clause-allowed c = let b = c.requires.builder in let is = b.sits.named in let low = b.sits.seated.0 in let own = c.args.pass.now.seat.me.0.post.own in
    may_free c.args.shared.now.table.shared.key c.args.pass.now.seat.id c.args.pass.now.seat.me.0 (λ z. omega arith) b.holds (subst (λ (n : ℕ). Agrees n own.stored own.counted) c.args.shared.now.seated.0 c.requires.agrees)

pub returns-clause-loose : goal.returns-clause-loose
returns-clause-loose c = let t = c.args.shared.now.table.shared in let old = c.args.pass.now in let new = c.unlock.new.pass in
    freed_is_loose t.table_id t.key old.number old.lanes new.number new.lanes old.seat new.seat c.unlock.ensures.own c.unlock.ensures.view
