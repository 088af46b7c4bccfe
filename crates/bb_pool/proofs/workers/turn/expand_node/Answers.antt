use Rattle.std.proofs.Common.{[], refl, sym, ap, subst}
use Rattle.bb_problem.specs.declared.step.Step.TheVariants as steps
use Rattle.bb_problem.specs.Expanding.{IsExpanded}
use Rattle.bb_shared.specs.Stores.{numbered}
use Rattle.bb_pool.specs.Origins.{HasOrigins}
use Rattle.bb_pool.specs.Together.{doing}
use Rattle.bb_pool.proofs.Several.Origins.{traced_left}
use Rattle.bb_pool.proofs.Several.Counting.{goes_further, can_go_on}
use Rattle.bb_pool.proofs.Several.Turns.{drops, expands, goes_read, after_ok, after_err, halt_more}
use Rattle.bb_pool.proofs.workers.turn.expand_node.Goals as goal

pub returns-then-not-is_below-clause-worked : goal.returns-then-not-is_below-clause-worked
returns-then-not-is_below-clause-worked g c = let laws = g.met.P.Problem g.world.𝓛 g.world.𝓜 g.world.𝓡 ((λ s x. x), (λ x. x), (λ x. x), λ x. x) in let lawful = laws.lawful c.args.problem.now c.requires.valid in (
  goes_read c.args.shared.now.nodes _ _ _ c.best-best.ensures.read refl refl refl refl,
  drops (doing g.Q.SharedQueue.known c.args.worker.now) _ c.args.child _ lawful c.best-best.ensures.read refl refl refl refl (sym c.if-not-is_below.ensures) c.requires.held,
)

pub keep_plan-requires-clause-leaf : goal.keep_plan-requires-clause-leaf
keep_plan-requires-clause-leaf g c κs among = let m = g.P.Problem.meaning c.args.problem.now in
    expands (doing g.Q.SharedQueue.known c.args.worker.now) _ c.args.child (steps.Leaf c.in-Ok-Leaf.plan) _ c.best-best.ensures.read refl refl refl refl c.requires.held
    (λ name st. subst (IsExpanded m name) c.in-Ok-Leaf.field-0-is (c.in-Ok-Leaf.ensures.expanded name st))

pub put_children-requires-clause-branch : goal.put_children-requires-clause-branch
put_children-requires-clause-branch g c κs among = let m = g.P.Problem.meaning c.args.problem.now in
    expands (doing g.Q.SharedQueue.known c.args.worker.now) _ c.args.child (steps.Branch c.in-Ok-Branch.children) _ c.best-best.ensures.read refl refl refl refl c.requires.held
    (λ name st. subst (IsExpanded m name) c.in-Ok-Branch.field-0-is (c.in-Ok-Branch.ensures.expanded name st))

pub put_children-requires-clause-counted : goal.put_children-requires-clause-counted
put_children-requires-clause-counted g c κs among = can_go_on c.args.shared.now.nodes _ _ (goes_read c.args.shared.now.nodes (doing g.Q.SharedQueue.known c.args.worker.now) _ _ c.best-best.ensures.read refl refl refl refl) c.requires.counted

pub returns-in-Ok-Leaf-clause-worked : goal.returns-in-Ok-Leaf-clause-worked
returns-in-Ok-Leaf-clause-worked g c = (goes_further (goes_read c.args.shared.now.nodes _ _ _ c.best-best.ensures.read refl refl refl refl) c.keep_plan.ensures.on, c.keep_plan.ensures.working)

pub returns-in-Ok-Branch-clause-worked : goal.returns-in-Ok-Branch-clause-worked
returns-in-Ok-Branch-clause-worked g c = let on = goes_read c.args.shared.now.nodes (doing g.Q.SharedQueue.known c.args.worker.now) _ _ c.best-best.ensures.read refl refl refl refl in
    after_ok (λ x r. (goes_further on r.0, r.1)) c.put_children.result c.put_children.ensures.worked

pub returns-in-Ok-Branch-clause-halt : goal.returns-in-Ok-Branch-clause-halt
returns-in-Ok-Branch-clause-halt g c = let on = goes_read c.args.shared.now.nodes (doing g.Q.SharedQueue.known c.args.worker.now) _ _ c.best-best.ensures.read refl refl refl refl in
    after_err (λ stop h. halt_more stop on h) c.put_children.result c.put_children.ensures.halt

pub returns-then-not-is_below-clause-traced : goal.returns-then-not-is_below-clause-traced
returns-then-not-is_below-clause-traced g c = λ root number t. traced_left t

pub returns-in-Err-clause-traced : goal.returns-in-Err-clause-traced
returns-in-Err-clause-traced g c = λ root number t. traced_left t

pub returns-in-Ok-Leaf-clause-traced : goal.returns-in-Ok-Leaf-clause-traced
returns-in-Ok-Leaf-clause-traced g c = λ root number t. subst (λ s. HasOrigins (g.P.Problem.meaning c.args.problem.now) root [] s) (sym (ap (λ s. s.kept) c.keep_plan.ensures.seat)) (traced_left t)

pub returns-in-Ok-Branch-clause-traced : goal.returns-in-Ok-Branch-clause-traced
returns-in-Ok-Branch-clause-traced g c = let m = g.P.Problem.meaning c.args.problem.now in
    λ root number t. c.put_children.ensures.traced root (numbered number c.args.child.node) (λ name st. subst (IsExpanded m name) c.in-Ok-Branch.field-0-is (c.in-Ok-Branch.ensures.expanded name st)) t
