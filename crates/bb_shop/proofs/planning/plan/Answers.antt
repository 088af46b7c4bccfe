use Rattle.std.proofs.Common.{take, get_or, refl, subst, sym, ap}
use Rattle.std.proofs.lemmas.List.{take_all}
use Rattle.inst_text.specs.Shop.{AreStarts}
use Rattle.bb_shop.specs.Dispatching.{State}
use Rattle.bb_shop.specs.Working.{IsMade}
use Rattle.bb_shop.proofs.Planned.{made-none, made-more, made_reached, made_starts}
use Rattle.bb_shop.proofs.planning.plan.Goals as goal

pub loop-job-init : goal.loop-job-init
loop-job-init c = made-none c.args.shop.now c.in_ok-schedule.schedule c.in_ok-schedule.ensures.opened

pub loop-job-preserved : goal.loop-job-preserved
loop-job-preserved c =
    made-more c.args.shop.now c.args.order.now c.loop-job.job-index (get_or c.args.order.now c.loop-job.job-index 0) c.loop-job.schedule c.in_ok-schedule-2.schedule c.loop-job-test.true refl c.loop-job.invariant c.in_ok-schedule-2.ensures.left c.in_ok-schedule-2.ensures.none

pub dispatch-requires : goal.dispatch-requires
dispatch-requires c = made_reached c.args.shop.now (take c.loop-job.job-index c.args.order.now) c.loop-job.schedule c.loop-job.invariant

pub invariant_of-result : goal.invariant_of-result
invariant_of-result c =
    subst (λ (v : State). AreStarts v.starts) (sym c.schedule.view_is) (made_starts c.args.shop.now (take c.loop-job.job-index c.args.order.now) c.loop-job.schedule c.in_ok-schedule.ensures.within_limits c.loop-job.invariant)

pub returns-clause-plan : goal.returns-clause-plan
returns-clause-plan c = record {
  schedule = c.loop-job.schedule;
  is_made = subst (λ o. IsMade c.args.shop.now o c.loop-job.schedule) (take_all c.loop-job.job-index c.args.order.now c.loop-job-test.false) c.loop-job.invariant;
  starts_are = ap (λ (v : State). v.starts) c.schedule.view_is;
}
