use Rattle.std.proofs.Common.{ℕ, ◌+◌, ap, ◌∙◌}
use Rattle.std.specs.Prelude.{slice_index_or}
use Rattle.pq_model.specs.declared.passes.Known.{Known}
use Rattle.pq_seats.specs.declared.views.Limits.{Limits}
use Rattle.pq_seats.specs.Seats.{newcomer}
use Rattle.pq_pool.specs.Bench.{bench_rule, bench_limits}
use Rattle.pq_pool.proofs.BenchAllows.{newcomer_is_loose}
use Rattle.pq_pool.proofs.BenchRests.{newcomer_rests}
use Rattle.pq_pool.proofs.bench.Bench.open.Goals as goal

pub open-requires : goal.open-requires
open-requires c = c.in_ok-words.ensures.begins c.args.capacity

pub returns-clause-passes : goal.returns-clause-passes
returns-clause-passes c = let q = c.in_ok-shared.shared in λ i d lt.
    let p = slice_index_or c.in_ok-shared.passes.items i d in let e = c.in_ok-shared.ensures.passes i d lt in (
      newcomer_is_loose q.table.shared.table_id q.table.shared.key p.number p.lanes (i + 1) p.seat e.0 e.2,
      e.0.named ∙ ap (λ (x : Known). x.number) e.1,
    )

-- the table has the words of `bench_words`
pub returns-clause-limits : goal.returns-clause-limits
returns-clause-limits c = c.in_ok-shared.ensures.limits
    ∙ ap (λ (n : ℕ). let k : Limits = record { capacity = c.args.capacity; seats = c.args.seats; words = n } in k) c.in_ok-words.ensures.long

pub returns-clause-new : goal.returns-clause-new
returns-clause-new c = λ i d lt. (c.in_ok-shared.ensures.passes i d lt).2
    ∙ ap (λ (k : Limits). newcomer bench_rule k (i + 1)) (returns-clause-limits c)

pub returns-clause-rest : goal.returns-clause-rest
returns-clause-rest c = λ i d lt. let p = slice_index_or c.in_ok-shared.passes.items i d in
    newcomer_rests p.seat.me.0 (bench_limits c.args.capacity c.args.seats c.args.chunks) (i + 1) (returns-clause-new c i d lt)
