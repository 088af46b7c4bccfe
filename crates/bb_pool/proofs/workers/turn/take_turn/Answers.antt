use Rattle.std.proofs.Common.{rules, [], ◌∷◌, refl, sym, subst}
use Rattle.bb_shared.specs.Stores.{numbered}
use Rattle.bb_pool.specs.Origins.{HasOrigins}
use Rattle.bb_pool.specs.Together.{doing}
use Rattle.bb_pool.proofs.Several.Origins.{traced_took}
use Rattle.bb_pool.proofs.Several.Counting.{goes_further, can_go_on}
use Rattle.bb_pool.proofs.Several.Turns.{goes_opened, goes_closed, work_closed, ends_closed, halt_more}
use Rattle.bb_pool.proofs.workers.turn.take_turn.Goals as goal

pub expand_node-requires-clause-counted : goal.expand_node-requires-clause-counted
expand_node-requires-clause-counted g c κs among = let n = c.args.shared.now.nodes in let v = doing g.Q.SharedQueue.known c.args.worker.now in
    can_go_on n v _ (goes_further (goes_opened n v (record v { told = c.opened.new.seat.kept }) refl refl c.opened.ensures.opened refl refl) c.in-Some.ensures.held.0) c.requires.counted

pub returns-in_err-expand_node-in-Some-clause-halt : goal.returns-in_err-expand_node-in-Some-clause-halt
returns-in_err-expand_node-in-Some-clause-halt g c = let n = c.args.shared.now.nodes in let v = doing g.Q.SharedQueue.known c.args.worker.now in
    let on = goes_further (goes_opened n v (record v { told = c.opened.new.seat.kept }) refl refl c.opened.ensures.opened refl refl) c.in-Some.ensures.held.0 in
    let why = halt_more _ on c.in_err-expand_node-in-Some.ensures.halt in search (rules, why)

pub returns-in-None-clause-turn : goal.returns-in-None-clause-turn
returns-in-None-clause-turn g c = let none = c.in-None.ensures.none in let v = doing g.Q.SharedQueue.known c.args.worker.now in
    let w = doing g.Q.SharedQueue.known c.take_node.new.worker in let x = record w { told = c.closed.new.seat.kept } in (
      goes_closed v (record v { told = c.opened.new.seat.kept }) w x _ refl refl c.opened.ensures.opened refl refl none.0 refl refl c.closed.ensures.closed refl refl,
      work_closed w x _ refl refl c.closed.ensures.closed refl none.1,
      ends_closed w x _ refl c.closed.ensures.closed refl none.2,
    )

pub returns-in_ok-expand_node-in-Some-clause-turn : goal.returns-in_ok-expand_node-in-Some-clause-turn
returns-in_ok-expand_node-in-Some-clause-turn g c = let worked = c.in_ok-expand_node-in-Some.ensures.worked in let v = doing g.Q.SharedQueue.known c.args.worker.now in
    let w = doing g.Q.SharedQueue.known c.expand_node.new.worker in let x = record w { told = c.closed-in-Some.new.seat.kept } in (
      goes_closed v (record v { told = c.opened.new.seat.kept }) w x _ refl refl c.opened.ensures.opened refl refl (goes_further c.in-Some.ensures.held.0 worked.0) refl refl c.closed-in-Some.ensures.closed refl refl,
      work_closed w x _ refl refl c.closed-in-Some.ensures.closed refl worked.1,
    )

pub returns-in_err-expand_node-in-Some-clause-traced : goal.returns-in_err-expand_node-in-Some-clause-traced
returns-in_err-expand_node-in-Some-clause-traced g c = let m = g.P.Problem.meaning c.args.problem.now in let took = c.in-Some.ensures.took in let p = numbered took.0 c.in-Some.child.node in
    λ root t. c.expand_node.ensures.traced root took.0 (subst (λ s. HasOrigins m root (p ∷ []) s) (sym took.1) (traced_took p t))

pub returns-in_ok-expand_node-in-Some-clause-traced : goal.returns-in_ok-expand_node-in-Some-clause-traced
returns-in_ok-expand_node-in-Some-clause-traced g c = let m = g.P.Problem.meaning c.args.problem.now in let took = c.in-Some.ensures.took in let p = numbered took.0 c.in-Some.child.node in
    λ root t. c.expand_node.ensures.traced root took.0 (subst (λ s. HasOrigins m root (p ∷ []) s) (sym took.1) (traced_took p t))

pub returns-in-None-clause-traced : goal.returns-in-None-clause-traced
returns-in-None-clause-traced g c = λ root t. subst (λ s. HasOrigins (g.P.Problem.meaning c.args.problem.now) root [] s) (sym c.in-None.ensures.same) t
