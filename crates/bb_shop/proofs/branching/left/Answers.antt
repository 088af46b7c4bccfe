use Rattle.std.proofs.Common.{[], ◌∷◌, ◌++◌, length, take, sym, ap, ◌∙◌, arith}
use Rattle.std.proofs.lemmas.List.{length-take, take_all}
use Rattle.bb_shop.specs.Working.{left_in}
use Rattle.bb_shop.specs.TreeLawsHold.Remaining.{left_in-none, left_in-more, left_in-no_more, length-left_in}
use Rattle.bb_shop.proofs.branching.left.Goals as goal
use Rattle.bb_shop.proofs.branching.left.Goals.{then-step-machines, else-step-machines}

pub loop-job-init : goal.loop-job-init
loop-job-init c = c.new-jobs.ensures ∙ sym (left_in-none c.args.machines)

pub push-requires : goal.push-requires
push-requires c =
    let steps = c.args.steps.now in
    let i = c.loop-job.job in (
      omega arith,
      omega (arith, ap length c.loop-job.invariant, length-left_in c.args.machines (take i steps), length-take i steps, c.loop-job-test.true, c.requires),
    )

pub loop-job-preserved : goal.loop-job-preserved
loop-job-preserved c =
    let m = c.args.machines in
    let i = c.loop-job.job in
    let steps = c.args.steps.now in
    elim c.if-step-machines.branch [
      | then-step-machines w ↦
          ap (λ v. v.items) w.jobs-is ∙ w.push.ensures.items ∙ ap (λ js. js ++ i ∷ []) c.loop-job.invariant ∙ sym (left_in-more m i steps c.loop-job-test.true w.if-step-machines.true)
      | else-step-machines w ↦
          ap (λ v. v.items) w.jobs-is ∙ c.loop-job.invariant ∙ sym (left_in-no_more m i steps c.loop-job-test.true (omega (arith, w.if-step-machines.false)))
    ]

pub returns : goal.returns
returns c = c.loop-job.invariant ∙ ap (left_in c.args.machines) (take_all c.loop-job.job c.args.steps.now (omega (arith, c.loop-job-test.false)))
