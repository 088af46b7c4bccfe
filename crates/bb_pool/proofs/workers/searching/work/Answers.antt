use Rattle.std.proofs.Common.{rules, arith, ℕ, ◌≡◌, ◌+◌, length, drop, sym, ap, subst}
use Rattle.pq_api.specs.Answers.{EachAt}
use Rattle.bb_pool.specs.declared.workers.shared.Worker.{Worker}
use Rattle.bb_pool.specs.Together.{doing, IsOneOf, IsNew}
use Rattle.bb_pool.specs.Runs.{HasEnded}
use Rattle.bb_pool.proofs.Several.Each.{written_back}
use Rattle.bb_pool.proofs.workers.searching.work.Goals as goal

pub run_from_root-requires-clause-some : goal.run_from_root-requires-clause-some
run_from_root-requires-clause-some g c κs within = let laws = g.met.Q.SharedQueue g.world.𝓛 g.world.𝓜 g.world.𝓡 ((λ s x. x), (λ x. x), (λ x. x), λ x. x) in
    let some = (laws.sized c.args.shared.now.queue).0 in let same = ap length c.as_mut_slice.ensures.value in let count = c.requires.count in omega arith

pub run_from_root-requires-clause-new : goal.run_from_root-requires-clause-new
run_from_root-requires-clause-new g c κs within = let sh = c.args.shared.now in let Q = g.Q.SharedQueue in
    let W : ℕ → Worker g.row.Q-Pass.Denot g.row.P-Node.Denot g.row.P-Plan.Denot → Type 0 = λ k w. IsOneOf Q.belongs sh w × IsNew (Q.seats_of sh.queue) (k + 1) (doing Q.known w) in
    subst (EachAt W) (sym c.as_mut_slice.ensures.value) c.requires.new

pub join_all-worker-requires-clause-some : goal.join_all-worker-requires-clause-some
join_all-worker-requires-clause-some g c κs within = let laws = g.met.Q.SharedQueue g.world.𝓛 g.world.𝓜 g.world.𝓡 ((λ s x. x), (λ x. x), (λ x. x), λ x. x) in
    let some = (laws.sized c.args.shared.now.queue).0 in let lent = ap length c.as_mut_slice.ensures.value in let count = c.requires.count in let kept = c.run_from_root.ensures.count in
    let many : c.args.workers.len ≡ length c.run_from_root.new.workers = search rules in
    let same = ap length (written_back c.run_from_root.new.workers (drop (length c.run_from_root.new.workers) c.args.workers.items) c.args.workers.len many) in omega arith

pub join_all-worker-requires-clause-ended : goal.join_all-worker-requires-clause-ended
join_all-worker-requires-clause-ended g c κs within = let sh = c.args.shared.now in let Q = g.Q.SharedQueue in
    let many : c.args.workers.len ≡ length c.run_from_root.new.workers = search rules in
    let same = written_back c.run_from_root.new.workers (drop (length c.run_from_root.new.workers) c.args.workers.items) c.args.workers.len many in
    let W : ℕ → Worker g.row.Q-Pass.Denot g.row.P-Node.Denot g.row.P-Plan.Denot → Type 0 = λ k w. HasEnded Q.belongs Q.known Q.seats_of Q.capacity_of (g.P.Problem.meaning c.args.problem.now) sh (k + 1) w in
    subst (EachAt W) (sym same) c.run_from_root.ensures.ended
