use Rattle.std.proofs.Common.{◌∙◌, sym, ap}
use Rattle.std.proofs.lemmas.Result.{err_from_is_err_and}
use Rattle.pq_io.specs.Reading.{on_line, number_at}
use Rattle.inst_text.specs.Limits.{max_total}
use Rattle.inst_text.specs.Several.{with_line}
use Rattle.inst_text.proofs.OneByOne.{goes_on, ends, is_done}
use Rattle.inst_text.proofs.PlanLines.{same_state}
use Rattle.inst_text.proofs.plan.schedules.next_start_times.Goals as goal

pub returns-in_err-start-clause-exact : goal.returns-in_err-start-clause-exact
returns-in_err-start-clause-exact c =
    let p = err_from_is_err_and c.from_residual-in_err-start.result c.from_residual-in_err-start.ensures.1 in
    rw (p.1, p.2)
    (ends (with_line c.args.words.now.number (λ (s : Unit {0}). number_at 0 max_total)) same_state c.loop.row.items c.args.count c.loop.counter tt c.loop.words.words _ _ c.loop-test.true
    (ap (λ n. on_line n (number_at 0 max_total c.loop.words.words)) (sym c.loop.invariant.line) ∙ c.in_err-start.ensures.exact) c.loop.invariant.so_far)

pub loop-preserved : goal.loop-preserved
loop-preserved c = record {
  line = c.next_start.ensures.line ∙ c.loop.invariant.line;
  so_far =
      rw c.in_ok-push.ensures.items
      (goes_on (with_line c.args.words.now.number (λ (s : Unit {0}). number_at 0 max_total)) same_state c.loop.row.items c.args.count c.loop.counter tt c.loop.words.words c.in_ok-start.start _ _ c.loop-test.true
      (ap (λ n. on_line n (number_at 0 max_total c.loop.words.words)) (sym c.loop.invariant.line) ∙ c.in_ok-start.ensures.exact) c.loop.invariant.so_far);
}

pub returns-clause-exact : goal.returns-clause-exact
returns-clause-exact c =
    is_done (with_line c.args.words.now.number (λ (s : Unit {0}). number_at 0 max_total)) same_state c.loop.row.items c.args.count c.loop.counter tt c.loop.words.words _ c.loop-test.false c.loop.invariant.so_far
