use Rattle.std.proofs.lemmas.List.{map-append}
use Rattle.std.proofs.lemmas.Result.{err_from_is_err_and}
use Rattle.pq_io.specs.Reading.{line_at}
use Rattle.inst_text.specs.Plans.{start_row_of}
use Rattle.inst_text.proofs.OneByOne.{goes_on, refused, is_done}
use Rattle.inst_text.proofs.PlanLines.{same_state}
use Rattle.inst_text.proofs.plan.schedules.next_start_rows.Goals as goal

pub returns-in_err-row : goal.returns-in_err-row
returns-in_err-row c =
    let p = err_from_is_err_and c.from_residual-in_err-row.result c.from_residual-in_err-row.ensures.1 in
    rw (p.1, p.2)
    (refused (λ (s : Unit {0}). line_at (start_row_of c.args.count)) same_state _ c.args.jobs c.loop.counter tt c.loop.text c.in_err-row.field-0.0 _ c.loop-test.true c.in_err-row.ensures c.loop.invariant)

pub loop-preserved : goal.loop-preserved
loop-preserved c =
    rw (c.in_ok-push.ensures.items, map-append)
    (goes_on (λ (s : Unit {0}). line_at (start_row_of c.args.count)) same_state _ c.args.jobs c.loop.counter tt c.loop.text c.in_ok-row.row.items _ _ c.loop-test.true c.in_ok-row.ensures c.loop.invariant)

pub returns : goal.returns
returns c = is_done (λ (s : Unit {0}). line_at (start_row_of c.args.count)) same_state _ c.args.jobs c.loop.counter tt c.loop.text _ c.loop-test.false c.loop.invariant
