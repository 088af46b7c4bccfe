use Rattle.std.proofs.Common.{rules, arith, ◌+◌, sym, subst}
use Rattle.std.proofs.iter.Serving.{serving}
use Rattle.bb_pool.specs.Runs.{IsReady, HasEnded}
use Rattle.bb_pool.proofs.workers.running.run_all.Goals as goal

pub for_each_mut-requires-clause-accepts : goal.for_each_mut-requires-clause-accepts
for_each_mut-requires-clause-accepts g c κs among = λ i p lt is. let sh = c.args.shared.now in let Q = g.Q.SharedQueue in
    let ready = subst (IsReady Q.belongs Q.known Q.seats_of Q.capacity_of (g.P.Problem.meaning c.args.problem.now) sh (i + 1)) (sym is) (c.requires.ready i p.now lt) in (c.requires.valid, (ready, (grind serving, grind serving, grind serving, grind serving, grind serving, search serving, search (serving, rules), grind (serving, rules))))

pub returns-clause-ended : goal.returns-clause-ended
returns-clause-ended g c = λ k d lt. let sh = c.args.shared.now in let Q = g.Q.SharedQueue in
    let at = (c.for_each_mut.ensures k d (let same = c.for_each_mut.auto.s in omega arith)).1 in
    subst (HasEnded Q.belongs Q.known Q.seats_of Q.capacity_of (g.P.Problem.meaning c.args.problem.now) sh (k + 1)) at.left (let post = at.call in (post.0, post.1))
