use Rattle.std.proofs.Common.{ℕ, ◌≡◌, ◌+◌, subst}
use Rattle.pq_api.specs.Answers.{EachAt}
use Rattle.bb_pool.specs.declared.workers.shared.Worker.{Worker}
use Rattle.bb_pool.specs.Together.{doing, IsNew}
use Rattle.bb_pool.proofs.workers.opening.open.Goals as goal

pub returns-clause-new : goal.returns-clause-new
returns-clause-new g c = let Q = g.Q.SharedQueue in
    let W : ℕ → ℕ → Worker g.row.Q-Pass.Denot g.row.N.Denot g.row.L.Denot → Type 0 = λ n k w. (Q.belongs c.args.queue w.pass × (w.seat.store ≡ c.in_ok-store.store) × (w.control.control ≡ c.in_ok-control.control)) × IsNew n (k + 1) (doing Q.known w) in
    subst (λ n. EachAt (W n) c.in_ok-workers.workers.items) c.requires.count c.in_ok-workers.ensures.new
