use Rattle.std.proofs.Common.{rules, arith, ℕ, suc, ◌≡◌, ◌+◌}
use Rattle.std.specs.Prelude.{IsTrue}
use Rattle.bb_pool.specs.declared.workers.shared.Worker.{Worker}
use Rattle.bb_pool.specs.Together.{doing, IsOneOf, IsNew}
use Rattle.bb_pool.specs.Runs.{IsReady, HasEnded}
use Rattle.bb_pool.proofs.Several.Each.{each_set_first}
use Rattle.bb_pool.proofs.Several.Runs.{new_together, begun_together, together_more}
use Rattle.bb_pool.proofs.workers.searching.run_from_root.Goals as goal

pub begin-requires-clause-begun : goal.begin-requires-clause-begun
begin-requires-clause-begun g c κs within = let sh = c.args.shared.now in let Q = g.Q.SharedQueue in
    let new = (c.requires.new 0 c.index-workers-0.result (let some = c.requires.some in omega arith)).1 in
    new_together (g.P.Problem.meaning c.args.problem.now) sh.nodes (Q.seats_of sh.queue) (Q.capacity_of sh.queue) 1 _ new

pub returns-then-not-begin-clause-ended : goal.returns-then-not-begin-clause-ended
returns-then-not-begin-clause-ended g c = let sh = c.args.shared.now in let Q = g.Q.SharedQueue in let m = g.P.Problem.meaning c.args.problem.now in
    let W = Worker g.row.Q-Pass.Denot g.row.P-Node.Denot g.row.P-Plan.Denot in
    let P : ℕ → W → Type 0 = λ k w. HasEnded Q.belongs Q.known Q.seats_of Q.capacity_of m sh (k + 1) w in
    let O : ℕ → W → Type 0 = λ k w. IsOneOf Q.belongs sh w × IsNew (Q.seats_of sh.queue) (k + 1) (doing Q.known w) in
    each_set_first P O c.args.workers.now c.begin.new.worker (c.begin.ensures.own, c.begin.ensures.together)
    (λ k w new. (new.0, together_more (omega arith) (begun_together (λ (first : suc k + 1 ≡ 1). omega arith) (new_together m sh.nodes (Q.seats_of sh.queue) (Q.capacity_of sh.queue) (suc k + 1) (doing Q.known w) new.1)))) c.requires.new

pub run_all-requires-clause-ready : goal.run_all-requires-clause-ready
run_all-requires-clause-ready g c κs within = let sh = c.args.shared.now in let Q = g.Q.SharedQueue in let m = g.P.Problem.meaning c.args.problem.now in
    let W = Worker g.row.Q-Pass.Denot g.row.P-Node.Denot g.row.P-Plan.Denot in
    let P : ℕ → W → Type 0 = λ k w. IsReady Q.belongs Q.known Q.seats_of Q.capacity_of m sh (k + 1) w in
    let O : ℕ → W → Type 0 = λ k w. IsOneOf Q.belongs sh w × IsNew (Q.seats_of sh.queue) (k + 1) (doing Q.known w) in
    let yes : IsTrue c.begin.result = search rules in
    each_set_first P O c.args.workers.now c.begin.new.worker (c.begin.ensures.own, c.begin.ensures.none yes, c.begin.ensures.begun yes)
    (λ k w new. let begun = new_together m sh.nodes (Q.seats_of sh.queue) (Q.capacity_of sh.queue) (suc k + 1) (doing Q.known w) new.1 in (new.0, begun.none, begun_together (λ (first : suc k + 1 ≡ 1). omega arith) begun)) c.requires.new
