use Rattle.std.proofs.Common.{ℕ, ◌+◌, sym, subst}
use Rattle.pq_api.specs.Answers.{EachAt}
use Rattle.bb_pool.specs.declared.workers.shared.Worker.{Worker}
use Rattle.bb_pool.specs.Together.{doing, IsOneOf, IsNew}
use Rattle.bb_pool.proofs.workers.searching.search_together.Goals as goal

pub work-requires-clause-new : goal.work-requires-clause-new
work-requires-clause-new g c κs within = let sh = c.in-Ok-open.shared in let Q = g.Q.SharedQueue in
    let W : ℕ → ℕ → Worker g.row.Q-Pass.Denot g.row.P-Node.Denot g.row.P-Plan.Denot → Type 0 = λ n k w. IsOneOf Q.belongs sh w × IsNew n (k + 1) (doing Q.known w) in
    subst (λ q. EachAt (W (Q.seats_of q)) c.in-Ok-open.workers.items) (sym c.in-Ok-open.ensures.shared.0) c.in-Ok-open.ensures.new
