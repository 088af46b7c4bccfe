use Rattle.std.proofs.Common.{◌≡◌, List, [], ◌∷◌, ◌++◌, get_or, map, take, sym, ap, subst, ◌∙◌, arith}
use Rattle.std.proofs.lemmas.List.{take_more, take_all, map-append}
use Rattle.bb_problem.specs.Expanding.{StandBelow}
use Rattle.bb_shop.specs.Plans.{operation_at}
use Rattle.bb_shop.specs.Dispatching.{number_in}
use Rattle.bb_shop.specs.Branching.{Node, Stands}
use Rattle.bb_shop.specs.Working.{coming, child_by, child_of}
use Rattle.bb_shop.specs.TreeLawsHold.Standing.{stand_below}
use Rattle.bb_shop.proofs.shop.Shop.branch.Goals as goal

pub loop-job-init : goal.loop-job-init
loop-job-init c = record { children = c.in_ok-children.ensures.items; within_limits = λ lt. absurd (omega (arith, lt)) }

pub loop-job-preserved : goal.loop-job-preserved
loop-job-preserved c =
    let s = c.args.self.now in
    let node = c.args.node.now in
    let jobs = c.args.jobs.now in
    let i = c.loop-job.job-index in
    let j = c.from-job.result in
    let f = child_of s node in
    let operation : c.operation-operation.result ≡ coming s node j =
    c.operation-operation.ensures.operation ∙ ap (λ ks. operation_at s j (number_in ks j)) c.steps.ensures in
    let child : c.in_ok-dispatching.field-0 ≡ f j = c.in_ok-dispatching.ensures ∙ ap (λ o. child_by node o j) operation in
    record {
      children =
          c.in_ok-push.ensures.items ∙ ap (λ n. c.loop-job.children.items ++ n ∷ []) child ∙ ap (λ ns. ns ++ f j ∷ []) c.loop-job.invariant.children
          ∙ ap (λ k. map f (take i jobs) ++ f k ∷ []) c.from-job.ensures
          ∙ sym (ap (map f) (take_more jobs i 0 c.loop-job-test.true) ∙ map-append f (take i jobs) (get_or jobs i 0 ∷ []));
      within_limits = λ lt. c.operation-operation.ensures.within_limits;
    }

children : (c : goal.After-loop-job) → c.loop-job.children.items ≡ map (child_of c.args.self.now c.args.node.now) c.args.jobs.now
children c = c.loop-job.invariant.children ∙ ap (map (child_of c.args.self.now c.args.node.now)) (take_all c.loop-job.job-index c.args.jobs.now c.loop-job-test.false)

pub returns-clause-children : goal.returns-clause-children
returns-clause-children c = children c

pub returns-clause-stand : goal.returns-clause-stand
returns-clause-stand c = λ name stands.
    let s = c.args.self.now in
    let node = c.args.node.now in
    let jobs = c.args.jobs.now in
    subst (λ (ns : List Node). StandBelow (Stands s) name ns jobs) (sym (children c))
    (stand_below s node name jobs (λ some. c.loop-job.invariant.within_limits (omega (arith, some, c.loop-job-test.false))) stands c.requires.left)
