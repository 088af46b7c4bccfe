use Rattle.std.proofs.Common.{◌≡◌, ◌<◌, length, map, rules, ap, arith}
use Rattle.std.proofs.lemmas.List.{length_push}
use Rattle.std.proofs.lemmas.Slice.Zip.{zip_turn, zip_end}
use Rattle.inst_text.specs.Shop.{IsJobShop, AreStarts, row_time}
use Rattle.bb_shop.specs.TreeLawsHold.Times.{row_time-le}
use Rattle.bb_shop.specs.Plans.{row_at, row_end}
use Rattle.bb_shop.specs.Judging.{times_at}
use Rattle.bb_shop.proofs.Rows.{read_row, length-rows, starts-early, rows_end-more, rows_end-past}
use Rattle.bb_shop.proofs.makespan.makespan_of.Goals as goal

pub row_end-requires-clause-times : goal.row_end-requires-clause-times
row_end-requires-clause-times c =
    let rows = c.args.jobs.now.rows in
    let i = length c.loop-row.yielded in
    let turn = zip_turn c.jobs.inside.rows.items c.starts.inside.rows.items c.loop-row.yielded c.into_iter-row-iterator.result c.loop-row.row-iterator c.next.new.self c.next.result (search rules) (search rules) c.loop-row.yielded_by (c.in-Some.row, c.in-Some.times) c.in-Some.is c.next.ensures.steps in
    let row : c.as_slice.result.now ≡ row_at rows i = read_row c.jobs.inside.rows.items (λ v. v.items) rows i c.in-Some.row.now c.as_slice.result.now (ap (λ s. s.rows) c.jobs.view_is) turn.0 (turn.2 c.in-Some.row.now) c.as_slice.ensures.value in
    let limits : IsJobShop c.args.jobs.now = rw c.jobs.view_is at c.jobs.invariant in
    omega (arith, ap row_time row, row_time-le rows i, limits.times)

pub row_end-requires-clause-starts : goal.row_end-requires-clause-starts
row_end-requires-clause-starts c =
    let starts = c.args.starts.now in
    let i = length c.loop-row.yielded in
    let turn = zip_turn c.jobs.inside.rows.items c.starts.inside.rows.items c.loop-row.yielded c.into_iter-row-iterator.result c.loop-row.row-iterator c.next.new.self c.next.result (search rules) (search rules) c.loop-row.yielded_by (c.in-Some.row, c.in-Some.times) c.in-Some.is c.next.ensures.steps in
    let times : c.as_slice-in-loop-row.result.now ≡ times_at starts i = read_row c.starts.inside.rows.items (λ v. v.items) starts i c.in-Some.times.now c.as_slice-in-loop-row.result.now c.starts.view_is turn.1 (turn.3 c.in-Some.times.now) c.as_slice-in-loop-row.ensures.value in
    let early : AreStarts starts = rw c.starts.view_is at c.starts.invariant in
    rw times (starts-early starts i early)

pub loop-row-preserved : goal.loop-row-preserved
loop-row-preserved c =
    let rows = c.args.jobs.now.rows in
    let starts = c.args.starts.now in
    let i = length c.loop-row.yielded in
    let jobs_are : map (λ v. v.items) c.jobs.inside.rows.items ≡ rows = ap (λ s. s.rows) c.jobs.view_is in
    let turn = zip_turn c.jobs.inside.rows.items c.starts.inside.rows.items c.loop-row.yielded c.into_iter-row-iterator.result c.loop-row.row-iterator c.next.new.self c.next.result (search rules) (search rules) c.loop-row.yielded_by (c.in-Some.row, c.in-Some.times) c.in-Some.is c.next.ensures.steps in
    let row : c.as_slice.result.now ≡ row_at rows i = read_row c.jobs.inside.rows.items (λ v. v.items) rows i c.in-Some.row.now c.as_slice.result.now jobs_are turn.0 (turn.2 c.in-Some.row.now) c.as_slice.ensures.value in
    let times : c.as_slice-in-loop-row.result.now ≡ times_at starts i = read_row c.starts.inside.rows.items (λ v. v.items) starts i c.in-Some.times.now c.as_slice-in-loop-row.result.now c.starts.view_is turn.1 (turn.3 c.in-Some.times.now) c.as_slice-in-loop-row.ensures.value in
    let inside : i < length rows = omega (arith, turn.0, length-rows c.jobs.inside.rows.items (λ v. v.items) rows jobs_are) in
    let timed : i < length starts = omega (arith, turn.1, length-rows c.starts.inside.rows.items (λ v. v.items) starts c.starts.view_is) in
    let ends : c.row_end.result ≡ row_end (row_at rows i) (times_at starts i) = rw (row, times) at c.row_end.ensures in
    rows_end-more rows starts i _ c.loop-row.end c.max-end.result _ inside timed (length_push c.loop-row.yielded (c.in-Some.row, c.in-Some.times)) (search (rules, ends)) c.loop-row.invariant

pub returns : goal.returns
returns c =
    let rows = c.args.jobs.now.rows in
    let starts = c.args.starts.now in
    let i = length c.loop-row.yielded in
    let end = zip_end c.jobs.inside.rows.items c.starts.inside.rows.items c.loop-row.yielded c.into_iter-row-iterator.result c.loop-row.row-iterator c.next.new.self c.next.result (search rules) (search rules) c.loop-row.yielded_by c.in-None.is c.next.ensures.steps in
    let jobs = length-rows c.jobs.inside.rows.items (λ v. v.items) rows (ap (λ s. s.rows) c.jobs.view_is) in
    let times = length-rows c.starts.inside.rows.items (λ v. v.items) starts c.starts.view_is in
    omega (arith, c.loop-row.invariant, rows_end-past rows starts i (rw (jobs, times) at end))
