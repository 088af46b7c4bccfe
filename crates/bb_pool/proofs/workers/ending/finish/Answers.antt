use Rattle.std.proofs.Common.{rules, refl, sym, subst, ◌+◌}
use Rattle.bb_shared.specs.Controls.{IsStopped}
use Rattle.bb_pool.specs.Limits.{idle_calls}
use Rattle.bb_pool.specs.Together.{doing}
use Rattle.bb_pool.specs.SearchOutcomes.{IsSearchOutcome, IsFoundByAll}
use Rattle.bb_pool.proofs.Several.Runs.{stop_read_together}
use Rattle.bb_pool.proofs.Several.Answers.{stop_answer, best_answer, all_told, found_by_all, none_found}
use Rattle.bb_pool.proofs.workers.ending.finish.Goals as goal

pub returns-in-Some-clause-outcome : goal.returns-in-Some-clause-outcome
returns-in-Some-clause-outcome g c = let m = g.P.Problem.meaning c.args.problem.now in let sh = c.args.shared.now in let Q = g.Q.SharedQueue in let t = c.requires.together in
    let laws = g.met.P.Problem g.world.𝓛 g.world.𝓜 g.world.𝓡 ((λ s x. x), (λ x. x), (λ x. x), λ x. x) in let lawful = laws.lawful c.args.problem.now c.requires.valid in
    let told = subst (IsStopped c.args.worker.control.kept.stops) c.in-Some.is (c.stopped.ensures.read.whole (all_told t.numbered)) in
    let why = stop_answer m sh.nodes (Q.seats_of sh.queue) (Q.capacity_of sh.queue) (idle_calls + 1) (doing Q.known c.args.worker) c.in-Some.stop lawful sh.limit.1 t.numbered t.counted t.knows t.traced (t.causes c.in-Some.stop told) in
    subst (IsSearchOutcome m sh.nodes (Q.capacity_of sh.queue) (Q.seats_of sh.queue)) (sym c.of_stop.ensures) (search (rules, why))

pub go_alone-requires-clause-together : goal.go_alone-requires-clause-together
go_alone-requires-clause-together g c κs among = stop_read_together c.stopped.ensures.read refl refl refl refl c.requires.together

pub returns-in-Ok-clause-outcome : goal.returns-in-Ok-clause-outcome
returns-in-Ok-clause-outcome g c = let m = g.P.Problem.meaning c.args.problem.now in let sh = c.args.shared.now in let Q = g.Q.SharedQueue in let s = c.in-Ok.ensures.solved in
    subst (IsSearchOutcome m sh.nodes (Q.capacity_of sh.queue) (Q.seats_of sh.queue)) (sym c.of_best.ensures)
    (best_answer m sh.nodes (Q.seats_of sh.queue) (Q.capacity_of sh.queue) _ _ s.ends s.optimal)

pub returns-in-Some-clause-found : goal.returns-in-Some-clause-found
returns-in-Some-clause-found g c = let m = g.P.Problem.meaning c.args.problem.now in let sh = c.args.shared.now in let Q = g.Q.SharedQueue in
    let why = none_found m sh.nodes (Q.seats_of sh.queue) (Q.capacity_of sh.queue) c.in-Some.stop in
    subst (IsFoundByAll m (Q.seats_of sh.queue) (Q.capacity_of sh.queue)) (sym c.of_stop.ensures) (search (rules, why))

pub returns-in-Ok-clause-found : goal.returns-in-Ok-clause-found
returns-in-Ok-clause-found g c = let m = g.P.Problem.meaning c.args.problem.now in let sh = c.args.shared.now in let Q = g.Q.SharedQueue in
    subst (IsFoundByAll m (Q.seats_of sh.queue) (Q.capacity_of sh.queue)) (sym c.of_best.ensures)
    (found_by_all m (Q.seats_of sh.queue) (Q.capacity_of sh.queue) (doing Q.known c.go_alone.new.worker) c.go_alone.new.worker.found refl c.in-Ok.ensures.solved)

pub returns-in-Err-clause-found : goal.returns-in-Err-clause-found
returns-in-Err-clause-found g c = let m = g.P.Problem.meaning c.args.problem.now in let sh = c.args.shared.now in let Q = g.Q.SharedQueue in
    subst (IsFoundByAll m (Q.seats_of sh.queue) (Q.capacity_of sh.queue)) (sym c.of_stop-in-Err.ensures) (none_found m sh.nodes (Q.seats_of sh.queue) (Q.capacity_of sh.queue) c.in-Err.stop)
