use Rattle.std.proofs.Common.{arith}
use Rattle.bb_pool.proofs.Several.Answers.{one_outcome, size_outcome}
use Rattle.bb_pool.proofs.workers.searching.search.Goals as goal

pub returns-then-len-eq1-clause-outcome : goal.returns-then-len-eq1-clause-outcome
returns-then-len-eq1-clause-outcome g c = let Q = g.Q.SharedQueue in
    one_outcome (g.P.Problem.meaning c.args.problem.now) c.args.nodes (Q.capacity_of c.args.queue) (Q.seats_of c.args.queue) c.search_alone.result
    (let one = c.if-len-eq1.true in let len = c.len.ensures in let count = c.requires.passes in omega arith) c.search_alone.ensures.below_size c.search_alone.ensures.within_size c.search_alone.ensures.outcome

pub returns-clause-below_size : goal.returns-clause-below_size
returns-clause-below_size g c = let Q = g.Q.SharedQueue in
    size_outcome (g.P.Problem.meaning c.args.problem.now) c.args.nodes (Q.capacity_of c.args.queue) (Q.seats_of c.args.queue) c.search_together.result c.search_together.ensures.outcome

pub returns-then-len-eq1-clause-found : goal.returns-then-len-eq1-clause-found
returns-then-len-eq1-clause-found g c = λ several. absurd (several (let one = c.if-len-eq1.true in let len = c.len.ensures in let count = c.requires.passes in omega arith))
