use Rattle.std.proofs.Common.{◌<◌, length, ap, arith}
use Rattle.bb_shop.proofs.Rows.{length-rows, are_timed}
use Rattle.bb_shop.proofs.judging.first_early.Goals as goal

pub early_in-requires : goal.early_in-requires
early_in-requires c =
    let s = c.args.jobs.now in
    let inside : c.loop-job.job < length s.rows = omega (arith, c.len-job-end.ensures, length-rows c.jobs.inside.rows.items (λ v. v.items) s.rows (ap (λ j. j.rows) c.jobs.view_is)) in
    rw (c.row_of.ensures.row, c.times_of.ensures.times)
    (are_timed s c.args.starts.now c.loop-job.job c.row_of.ensures.within_limits c.times_of.ensures.within_limits c.requires inside)
