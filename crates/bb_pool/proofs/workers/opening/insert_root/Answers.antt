use Rattle.std.proofs.Common.{ℕ, true, false, Some, [], refl, sym, subst, arith}
use Rattle.bb_shared.specs.Stores.{KnowsStore, numbered}
use Rattle.bb_pool.specs.Limits.{idle_calls}
use Rattle.bb_pool.specs.Origins.{HasOrigins}
use Rattle.bb_pool.specs.Together.{doing}
use Rattle.bb_pool.proofs.Several.Origins.{root_drew, root_put}
use Rattle.bb_pool.proofs.Several.Counting.{can_go_on, goes_nowhere}
use Rattle.bb_pool.proofs.Several.Turns.{goes_drew, free_drawn, one_free, after_ok, after_err, over_cause}
use Rattle.bb_pool.proofs.Several.Runs.{root_run, root_halted}
use Rattle.bb_pool.proofs.workers.opening.insert_root.Goals as goal

pub put_child-requires-clause-counted : goal.put_child-requires-clause-counted
put_child-requires-clause-counted g c κs among = let sh = c.args.shared.now in let v = doing g.Q.SharedQueue.known c.args.worker.now in let u = record v { stored = c.draw.new.seat.kept } in
    let on = goes_drew sh.nodes v u _ refl c.in-First.ensures.drawn.3 refl refl refl (subst (λ n. KnowsStore n c.draw.new.seat.kept) sh.limit.0 c.draw.ensures.knows) in
    can_go_on sh.nodes v u on (idle_calls, omega arith, c.requires.begun.counted)

pub put_child-requires-clause-free : goal.put_child-requires-clause-free
put_child-requires-clause-free g c κs among = one_free (free_drawn c.args.worker.now.seat.kept _ c.in-First.first 1 c.in-First.ensures.drawn.3 c.in-First.ensures.drawn.2)

pub returns-in-First-clause-rooted : goal.returns-in-First-clause-rooted
returns-in-First-clause-rooted g c = let sh = c.args.shared.now in let v = doing g.Q.SharedQueue.known c.args.worker.now in let u = record v { stored = c.draw.new.seat.kept } in
    let on = goes_drew sh.nodes v u _ refl c.in-First.ensures.drawn.3 refl refl refl (subst (λ n. KnowsStore n c.draw.new.seat.kept) sh.limit.0 c.draw.ensures.knows) in
    after_ok (λ x r. root_run v u (doing g.Q.SharedQueue.known c.put_child.new.worker) _ c.in-First.first c.requires.begun on c.in-First.ensures.drawn.1 refl c.in-First.ensures.drawn.3 refl refl r.0 r.1 c.requires.root (c.bound-key.ensures.exact _ c.requires.root)) c.put_child.result c.put_child.ensures.put

pub returns-in-First-clause-stopped : goal.returns-in-First-clause-stopped
returns-in-First-clause-stopped g c = let sh = c.args.shared.now in let v = doing g.Q.SharedQueue.known c.args.worker.now in let u = record v { stored = c.draw.new.seat.kept } in
    let on = goes_drew sh.nodes v u _ refl c.in-First.ensures.drawn.3 refl refl refl (subst (λ n. KnowsStore n c.draw.new.seat.kept) sh.limit.0 c.draw.ensures.knows) in
    after_err (λ stop h. root_halted stop c.requires.begun on h) c.put_child.result c.put_child.ensures.halt

pub returns-in-First-clause-traced : goal.returns-in-First-clause-traced
returns-in-First-clause-traced g c = let m = g.P.Problem.meaning c.args.problem.now in let first : ℕ = c.in-First.first in let p = numbered first c.args.root in
    let drew = subst (λ s. HasOrigins m (Some first) [] s) (sym c.in-First.ensures.drawn.3) (root_drew first true c.requires.begun.traced) in
    (Some first, (λ other. absurd (other refl)), subst (λ s. HasOrigins m (Some first) [] s) (sym c.put_child.ensures.seat) (root_put p refl c.requires.root drew))

pub returns-in-Over-clause-traced : goal.returns-in-Over-clause-traced
returns-in-Over-clause-traced g c = let m = g.P.Problem.meaning c.args.problem.now in let drawn = c.in-Over.ensures.drawn in let first : ℕ = drawn.1 in
    (Some first, (λ other. absurd (other refl)), subst (λ s. HasOrigins m (Some first) [] s) (sym drawn.5) (root_drew first false c.requires.begun.traced))

pub returns-in-Over-clause-stopped : goal.returns-in-Over-clause-stopped
returns-in-Over-clause-stopped g c = let sh = c.args.shared.now in let v = doing g.Q.SharedQueue.known c.args.worker.now in let drawn = c.in-Over.ensures.drawn in let u = record v { stored = c.draw.new.seat.kept } in
    let on = goes_drew sh.nodes v u _ refl drawn.5 refl refl refl (subst (λ n. KnowsStore n c.draw.new.seat.kept) sh.limit.0 c.draw.ensures.knows) in
    let still = goes_nowhere sh.nodes u in
    root_halted _ c.requires.begun on (still, over_cause sh.nodes (g.Q.SharedQueue.known c.args.worker.now.pass) c.args.worker.now.seat.kept c.draw.new.seat.kept drawn.1 1 _ drawn.5 (omega arith) drawn.0 drawn.2, drawn.4)
