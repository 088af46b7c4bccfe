use Rattle.std.proofs.Common.{ℕ, arith, sym, subst}
use Rattle.std.specs.Prelude.{MatchBool}
use Rattle.pq_pool.specs.States.{Agrees}
use Rattle.pq_pool.specs.Passes.{HoldsBuilder}
use Rattle.pq_pool.specs.Bench.{bench_pool, IsLoose}
use Rattle.pq_pool.proofs.BenchAllows.{may_take, tried_is}
use Rattle.pq_pool.proofs.bench.Bench.try_hold.Goals as goal

pub try_lock-requires-clause-allowed : goal.try_lock-requires-clause-allowed
try_lock-requires-clause-allowed c = let l = c.requires.loose in let is = l.sits.named in let low = l.sits.seated.0 in
    may_take c.args.shared.now.table.shared.key c.args.pass.now.seat.id c.args.pass.now.seat.me.0 (λ z. omega arith) l.unpinned

pub returns-clause-held : goal.returns-clause-held
returns-clause-held c = let t = c.args.shared.now.table.shared in let old = c.args.pass.now in let new = c.try_lock.new.pass in
    subst (λ (n : ℕ). MatchBool c.try_lock.result (HoldsBuilder bench_pool c.args.shared.now new × Agrees n new.seat.me.0.post.own.stored new.seat.me.0.post.own.counted) (IsLoose c.args.shared.now new)) (sym c.args.shared.now.seated.0)
    (tried_is t.table_id t.key old.number old.lanes new.number new.lanes old.seat new.seat c.requires.loose c.try_lock.ensures.own c.try_lock.result c.try_lock.ensures.answer)
