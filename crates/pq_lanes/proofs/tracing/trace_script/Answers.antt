use Rattle.std.proofs.Common.{◌∙◌, sym}
use Rattle.pq_model.specs.Passes.{lanes}
use Rattle.pq_lanes.proofs.Ran.{numbered, as_many_tapes, is_trace, marks_have_lines}
use Rattle.pq_lanes.proofs.tracing.trace_script.Goals as goal

pub history_of-requires-clause-all : goal.history_of-requires-clause-all
history_of-requires-clause-all g c κs within =
    as_many_tapes c.args.script.now c.in_ok-ran.ran.tapes.items (lanes (g.Q.SharedQueue.known c.in_ok-ran.ran.pass)) c.in_ok-ran.ensures.tapes c.in_ok-ran.ensures.ran
    ∙ sym (c.in_ok-queue.ensures.limits.1 ∙ c.lane_count-seats.ensures.count)

pub history_of-requires-clause-numbered : goal.history_of-requires-clause-numbered
history_of-requires-clause-numbered g c κs within = numbered 1 c.args.script.now (lanes (g.Q.SharedQueue.known c.in_ok-ran.ran.pass)) c.in_ok-ran.ensures.ran

pub returns-clause-trace : goal.returns-clause-trace
returns-clause-trace g c = is_trace (g.Q.SharedQueue.seats_of c.in_ok-queue.queue) c.args.capacity c.args.script.now (g.Q.SharedQueue.known c.in_ok-ran.ran.pass) c.in_ok-history.history.marks
    (c.in_ok-queue.ensures.limits.1 ∙ c.lane_count-seats.ensures.count) c.in_ok-ran.ensures.ran c.in_ok-history.ensures.actual c.in_ok-history.ensures.legal

pub returns-clause-lines : goal.returns-clause-lines
returns-clause-lines g c = marks_have_lines c.args.capacity c.args.script.now c.in_ok-history.history.marks c.lane_count-seats.ensures.limits
    (is_trace (g.Q.SharedQueue.seats_of c.in_ok-queue.queue) c.args.capacity c.args.script.now (g.Q.SharedQueue.known c.in_ok-ran.ran.pass) c.in_ok-history.history.marks
    (c.in_ok-queue.ensures.limits.1 ∙ c.lane_count-seats.ensures.count) c.in_ok-ran.ensures.ran c.in_ok-history.ensures.actual c.in_ok-history.ensures.legal)
