use Rattle.std.proofs.Common.{length, ap, subst, ◌∙◌}
use Rattle.inst_text.specs.Shop.{JobShop, IsJobShop}
use Rattle.bb_shop.specs.TreeLawsHold.Standing.{root_fits, root_lists}
use Rattle.bb_onemach.specs.Bounds.{bound_by}
use Rattle.bb_onemach.proofs.active_shop.ActiveShop.root_bound.Goals as goal

pub bound_by-requires : goal.bound_by-requires
bound_by-requires c =
    let is = c.self.view_is in
    root_fits c.args.self.now c.job_count-jobs.result c.machine_count-machines.result (subst IsJobShop is c.job_count-jobs.ensures.within_limits)
    (c.job_count-jobs.ensures.count ∙ ap (λ (s : JobShop). length s.rows) is) (c.machine_count-machines.ensures.count ∙ ap (λ (s : JobShop). s.machines) is)

pub returns : goal.returns
returns c =
    let is = c.self.view_is in
    c.bound_by.ensures
    ∙ root_lists c.args.self.now c.job_count-jobs.result c.machine_count-machines.result (bound_by c.args.self.now) (subst IsJobShop is c.job_count-jobs.ensures.within_limits)
    (c.job_count-jobs.ensures.count ∙ ap (λ (s : JobShop). length s.rows) is) (c.machine_count-machines.ensures.count ∙ ap (λ (s : JobShop). s.machines) is)
