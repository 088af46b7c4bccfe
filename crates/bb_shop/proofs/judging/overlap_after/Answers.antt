use Rattle.std.proofs.Common.{◌<◌, length, ap, arith}
use Rattle.inst_text.specs.Shop.{row_time}
use Rattle.bb_shop.specs.TreeLawsHold.Times.{row_time-le, step_time-le}
use Rattle.bb_shop.proofs.Rows.{length-rows, are_timed}
use Rattle.bb_shop.proofs.judging.overlap_after.Goals as goal

pub new-booking-requires-clause-time : goal.new-booking-requires-clause-time
new-booking-requires-clause-time c =
    let rows = c.args.jobs.now.rows in
    omega (arith, step_time-le c.row_of.result.now c.args.step, ap row_time c.row_of.ensures.row, row_time-le rows c.args.job, c.row_of.ensures.within_limits.times)

pub overlap_in-requires : goal.overlap_in-requires
overlap_in-requires c =
    let s = c.args.jobs.now in
    let inside : c.loop-later.later < length s.rows = omega (arith, c.len-later-end.ensures, length-rows c.jobs.inside.rows.items (λ v. v.items) s.rows (ap (λ j. j.rows) c.jobs.view_is)) in
    rw (c.row_of-row.ensures.row, c.times_of-in-loop-later.ensures.times)
    (are_timed s c.args.starts.now c.loop-later.later c.row_of-row.ensures.within_limits c.times_of-in-loop-later.ensures.within_limits c.requires.shaped inside)
