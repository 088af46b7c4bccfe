use Rattle.std.proofs.Common.{◌≡◌, ◌+◌, ap, ◌∙◌, arith}
use Rattle.std.specs.Prelude.{max}
use Rattle.std.proofs.lemmas.Result.{IfOk-weaker}
use Rattle.inst_text.specs.declared.shop.Operation.{Operation}
use Rattle.bb_shop.specs.Plans.{operation_at}
use Rattle.bb_shop.specs.Dispatching.{State, number_in, next_of, IsLeft, dispatched}
use Rattle.bb_shop.specs.Working.{dispatched_by}
use Rattle.bb_shop.specs.TreeLawsHold.States.{next_machine-lt}
use Rattle.bb_shop.proofs.Planned.{dispatched-is, reached_state, reached_end}
use Rattle.bb_shop.proofs.planning.dispatch.Goals as goal

pub step-step-requires : goal.step-step-requires
step-step-requires c = omega (arith, c.if-job_count-job.false, c.job_count.ensures.count, (reached_state c.args.shop.now c.args.schedule c.requires).starts)

pub with-requires-clause-row : goal.with-requires-clause-row
with-requires-clause-row c = omega (arith, c.if-job_count-job.false, c.job_count.ensures.count, (reached_state c.args.shop.now c.args.schedule c.requires).starts)

pub with-requires-clause-job : goal.with-requires-clause-job
with-requires-clause-job c = omega (arith, c.if-job_count-job.false, c.job_count.ensures.count, (reached_state c.args.shop.now c.args.schedule c.requires).jobs)

pub with-requires-clause-machine : goal.with-requires-clause-machine
with-requires-clause-machine c =
    let s = c.args.shop.now in
    let st = c.args.schedule in
    let j = c.args.job in
    let left : IsLeft s st j = (omega (arith, c.if-job_count-job.false, c.job_count.ensures.count), omega (arith, c.if-machine_count-step.false, c.machine_count.ensures.count, c.step-step.ensures)) in
    let operation : c.operation.result ≡ next_of s st j = c.operation.ensures.operation ∙ ap (operation_at s j) c.step-step.ensures in
    omega (arith, ap (λ (o : Operation). o.machine) operation, next_machine-lt s st j c.job_count.ensures.within_limits left, (reached_state s st c.requires).machines)

pub with-requires-clause-end : goal.with-requires-clause-end
with-requires-clause-end c =
    let s = c.args.shop.now in
    let st = c.args.schedule in
    let j = c.args.job in
    let left : IsLeft s st j = (omega (arith, c.if-job_count-job.false, c.job_count.ensures.count), omega (arith, c.if-machine_count-step.false, c.machine_count.ensures.count, c.step-step.ensures)) in
    let operation : c.operation.result ≡ next_of s st j = c.operation.ensures.operation ∙ ap (operation_at s j) c.step-step.ensures in
    omega (arith, ap (λ (o : Operation). max (number_in st.jobs j) (number_in st.machines o.machine) + o.time) operation, reached_end s st j c.job_count.ensures.within_limits c.requires left)

pub returns-clause-left : goal.returns-clause-left
returns-clause-left c =
    let s = c.args.shop.now in
    let st = c.args.schedule in
    let j = c.args.job in
    let operation : c.operation.result ≡ next_of s st j = c.operation.ensures.operation ∙ ap (operation_at s j) c.step-step.ensures in
    IfOk-weaker c.with.result (λ (x : State). x ≡ dispatched_by st c.operation.result j) (λ (x : State). IsLeft s st j → x ≡ dispatched s st j)
    (λ x e left. e ∙ ap (λ o. dispatched_by st o j) operation ∙ dispatched-is s st j) c.with.ensures
