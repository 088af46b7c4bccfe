use Rattle.std.proofs.Common.{ap, ◌∙◌}
use Rattle.pq_model.specs.declared.passes.Known.{Known}
use Rattle.pq_model.specs.Passes.{joined_with}
use Rattle.pq_seats.specs.Passes.{known}
use Rattle.pq_pool.proofs.BenchRests.{no_lock, still_known}
use Rattle.pq_pool.proofs.bench.Bench.join.Goals as goal

pub unpin-requires-clause-no_lock : goal.unpin-requires-clause-no_lock
unpin-requires-clause-no_lock c = no_lock c.args.other.seat.me.0.post c.requires.bare

-- what the other knew is what it knew while it was pinned
pub returns-clause-joined : goal.returns-clause-joined
returns-clause-joined c = c.join.ensures.joined
    ∙ ap (λ (o : Known). joined_with (known c.args.pass.now) o) (still_known c.args.other.seat.me.0 c.unpin.new.pass.seat.me.0 c.unpin.ensures.same.rest)
