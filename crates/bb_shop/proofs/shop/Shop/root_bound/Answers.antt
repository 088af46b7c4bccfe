use Rattle.std.proofs.Common.{◌∙◌}
use Rattle.bb_shop.specs.TreeLawsHold.Standing.{root_fits, root_bound-is}
use Rattle.bb_shop.proofs.shop.Shop.root_bound.Goals as goal

pub bound_by-requires : goal.bound_by-requires
bound_by-requires c =
    root_fits c.args.self.now c.job_count-jobs.result c.machine_count-machines.result c.job_count-jobs.ensures.within_limits c.job_count-jobs.ensures.count c.machine_count-machines.ensures.count

pub returns : goal.returns
returns c =
    c.bound_by.ensures
    ∙ root_bound-is c.args.self.now c.job_count-jobs.result c.machine_count-machines.result c.job_count-jobs.ensures.within_limits c.job_count-jobs.ensures.count c.machine_count-machines.ensures.count
