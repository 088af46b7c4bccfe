use Rattle.std.proofs.Common.{ℕ, ◌<◌, ◌≤◌, sym, subst}
use Rattle.bb_problem.specs.Limits.{size_limit}
use Rattle.bb_pool.specs.Outcomes.{IsOutcome, IfNodeLimit}
use Rattle.bb_pool.specs.Underway.{IsOver}
use Rattle.bb_pool.proofs.OnePass.Turns.{over_outcome, stop_below_size, stop_within_size}
use Rattle.bb_pool.proofs.plain.search_turns.Goals as goal

pub returns-in-Err-clause-below_size : goal.returns-in-Err-clause-below_size
returns-in-Err-clause-below_size g c = let m = g.P.Problem.meaning c.args.problem.now in
    subst (λ o. IfNodeLimit o (λ asked limit. limit < m.tree_size)) (sym c.of_stop.ensures)
    (stop_below_size m c.args.nodes (g.C.OnePass.seat c.args.pass).capacity c.in-Err.stop c.in-Err.ensures.stops (c.needed_is_at_most_tree_size.ensures c.begin.ensures.valid) c.requires.nodes.1)

pub returns-in-Err-go_on-clause-below_size : goal.returns-in-Err-go_on-clause-below_size
returns-in-Err-go_on-clause-below_size g c = let m = g.P.Problem.meaning c.args.problem.now in
    subst (λ o. IfNodeLimit o (λ asked limit. limit < m.tree_size)) (sym c.of_stop-in-Err-go_on.ensures)
    (stop_below_size m c.args.nodes (g.C.OnePass.seat c.in-Ok.search.pass).capacity c.in-Err-go_on.stop c.in-Err-go_on.ensures.stops (c.needed_is_at_most_tree_size.ensures c.begin.ensures.valid) c.requires.nodes.1)

pub returns-in-Err-clause-within_size : goal.returns-in-Err-clause-within_size
returns-in-Err-clause-within_size g c = let m = g.P.Problem.meaning c.args.problem.now in
    subst (λ o. IfNodeLimit o (λ asked limit. m.tree_size < size_limit → asked ≤ m.tree_size)) (sym c.of_stop.ensures)
    (stop_within_size m c.args.nodes (g.C.OnePass.seat c.args.pass).capacity c.in-Err.stop c.in-Err.ensures.stops (c.needed_is_at_most_tree_size.ensures c.begin.ensures.valid))

pub returns-in-Err-go_on-clause-within_size : goal.returns-in-Err-go_on-clause-within_size
returns-in-Err-go_on-clause-within_size g c = let m = g.P.Problem.meaning c.args.problem.now in
    subst (λ o. IfNodeLimit o (λ asked limit. m.tree_size < size_limit → asked ≤ m.tree_size)) (sym c.of_stop-in-Err-go_on.ensures)
    (stop_within_size m c.args.nodes (g.C.OnePass.seat c.in-Ok.search.pass).capacity c.in-Err-go_on.stop c.in-Err-go_on.ensures.stops (c.needed_is_at_most_tree_size.ensures c.begin.ensures.valid))

pub returns-in-Ok-go_on-clause-outcome : goal.returns-in-Ok-go_on-clause-outcome
returns-in-Ok-go_on-clause-outcome g c = let m = g.P.Problem.meaning c.args.problem.now in
    let best = c.go_on.new.search.best in let known = (g.C.OnePass.seat c.go_on.new.search.pass).known in
    subst (λ o. IsOutcome m c.args.nodes (g.C.OnePass.seat c.args.pass).capacity o) (sym c.of_best.ensures)
    (over_outcome m c.args.nodes (g.C.OnePass.seat c.args.pass).capacity best known (subst (λ (k : ℕ). IsOver m c.args.nodes k best known) c.in-Ok.ensures.begun.capacity_is c.in-Ok-go_on.ensures.over))
