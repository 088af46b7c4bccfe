use Rattle.std.proofs.Common.{◌≡◌, ℕ, suc, ◌+◌, ◌*◌, ◌-◌, ◌<◌, List, length, drop, sym, ap, subst, ◌∙◌, arith}
use Rattle.std.specs.Prelude.{max, min}
use Rattle.std.proofs.lemmas.List.{length-drop, drop_min}
use Rattle.inst_text.specs.declared.shop.Operation.{Operation}
use Rattle.inst_text.specs.Shop.{row_time}
use Rattle.bb_shop.specs.declared.prepared_operation.PreparedOperation.{PreparedOperation}
use Rattle.bb_shop.specs.Plans.{row_at}
use Rattle.bb_shop.specs.Bounds.{finish, greatest, each_from}
use Rattle.bb_shop.specs.Dispatching.{number_in}
use Rattle.bb_shop.specs.Tables.{operations_in}
use Rattle.bb_shop.specs.Working.{finish_at}
use Rattle.bb_shop.specs.TreeLawsHold.States.{row-length}
use Rattle.bb_shop.specs.TreeLawsHold.Tabled.{operations_in-prepared_row, length-prepared_row, all-prepared_row, all-drop, named-row, job-end}
use Rattle.bb_shop.specs.TreeLawsHold.Times.{row_time-le, row_time-drop}
use Rattle.bb_onemach.specs.Visits.{heads}
use Rattle.bb_onemach.specs.Working.{IsWritten}
use Rattle.bb_onemach.proofs.HeadTables.{one_job_more}
use Rattle.bb_onemach.proofs.heads.write_all_heads.Goals as goal

pub loop-job-init : goal.loop-job-init
loop-job-init c =
    let s = c.args.shop.now in
    let finishes = λ (n : ℕ). greatest (each_from (finish_at s c.args.steps.now c.args.jobs.now c.args.machines.now) 0 n) in
    record {
      finish = omega (arith, ap finishes (let e : length s.rows - 0 ≡ length s.rows = omega arith in e));
      heads = λ j k lt le below. absurd (omega (arith, lt));
    }

pub write_heads-requires-clause-named : goal.write_heads-requires-clause-named
write_heads-requires-clause-named c =
    let s = c.args.shop.now in
    let j = c.loop-job.job in
    let named = named-row s j c.job_count-job-end.ensures.within_limits (omega (arith, c.loop-job-test.true, c.job_count-job-end.ensures.count)) in
    let left = all-drop (λ (o : Operation). o.machine < s.machines) c.min-step.result (row_at s.rows j) named in
    rw (c.rest.ensures, c.requires.fit.each_machine) (all-prepared_row s.machines (drop c.min-step.result (row_at s.rows j)) left)

pub write_heads-requires-clause-places : goal.write_heads-requires-clause-places
write_heads-requires-clause-places c =
    let s = c.args.shop.now in
    let j = c.loop-job.job in
    let row = row_at s.rows j in
    let inside : j < length s.rows = omega (arith, c.loop-job-test.true, c.job_count-job-end.ensures.count) in
    omega (
      arith,
      ap (λ (ps : List PreparedOperation). length ps) c.rest.ensures,
      length-prepared_row (drop c.min-step.result row),
      length-drop c.min-step.result row,
      row-length s j c.job_count-job-end.ensures.within_limits inside,
      ap (λ n. j * n) c.machine_count-count.ensures.count,
      c.machine_count-count.ensures.count,
      c.min-step.ensures,
      job-end j (length s.rows) s.machines inside,
      c.requires.places,
      c.loop-job.auto.table,
    )

pub write_heads-requires-clause-time : goal.write_heads-requires-clause-time
write_heads-requires-clause-time c =
    let s = c.args.shop.now in
    let row = row_at s.rows c.loop-job.job in
    let os : operations_in c.rest.result.now ≡ drop c.min-step.result row = ap operations_in c.rest.ensures ∙ operations_in-prepared_row (drop c.min-step.result row) in
    omega (arith, ap row_time os, row_time-drop c.min-step.result row, row_time-le s.rows c.loop-job.job, c.job_count-job-end.ensures.within_limits.times)

pub loop-job-preserved : goal.loop-job-preserved
loop-job-preserved c =
    let s = c.args.shop.now in
    let j = c.loop-job.job in
    let steps = c.args.steps.now in
    let jobs = c.args.jobs.now in
    let machines = c.args.machines.now in
    let m = s.machines in
    let row = row_at s.rows j in
    let inside : j < length s.rows = omega (arith, c.loop-job-test.true, c.job_count-job-end.ensures.count) in
    let shop = c.job_count-job-end.ensures.within_limits in
    let f = finish_at s steps jobs machines in
    let step : c.min-step.result ≡ min (number_in steps j) m = omega (arith, c.min-step.ensures, c.machine_count-count.ensures.count) in
    let place : j * c.machine_count-count.result + c.min-step.result ≡ j * m + min (number_in steps j) m =
    omega (arith, step, ap (λ n. j * n) c.machine_count-count.ensures.count) in
    let os : operations_in c.rest.result.now ≡ drop (min (number_in steps j) m) row =
    ap operations_in c.rest.ensures ∙ operations_in-prepared_row (drop c.min-step.result row) ∙ ap (λ n. drop n row) step in
    let left : drop (min (number_in steps j) m) row ≡ drop (number_in steps j) row =
    ap (λ n. drop (min (number_in steps j) n) row) (sym (row-length s j shop inside)) ∙ drop_min (number_in steps j) row in
    let n = length s.rows - (j + 1) in
    let e : length s.rows - j ≡ suc n = omega (arith, inside) in
    let last : c.write_heads.result ≡ f j = c.write_heads.ensures.finish ∙ ap (finish machines (number_in jobs j)) (os ∙ left) in
    let at : max c.loop-job.finish (greatest (each_from f j (suc n))) ≡ greatest (each_from f 0 (length s.rows)) =
    ap (λ k. max c.loop-job.finish (greatest (each_from f j k))) (sym e) ∙ c.loop-job.invariant.finish in
    record {
      finish = omega (arith, at, c.max-finish.ensures, last);
      heads =
          one_job_more s steps jobs machines j c.loop-job.table c.write_heads.new.table shop inside
          (subst (λ p. IsWritten p (heads machines (number_in jobs j) (drop (min (number_in steps j) m) row)) c.loop-job.table c.write_heads.new.table) place
          (subst (λ xs. IsWritten (j * c.machine_count-count.result + c.min-step.result) (heads machines (number_in jobs j) xs) c.loop-job.table c.write_heads.new.table) os c.write_heads.ensures.written))
          c.loop-job.invariant.heads;
    }

pub returns-clause-finish : goal.returns-clause-finish
returns-clause-finish c =
    let s = c.args.shop.now in
    let f = finish_at s c.args.steps.now c.args.jobs.now c.args.machines.now in
    let none : length s.rows - c.loop-job.job ≡ 0 = omega (arith, c.loop-job-test.false, c.job_count-job-end.ensures.count) in
    omega (arith, c.loop-job.invariant.finish, ap (λ n. greatest (each_from f c.loop-job.job n)) none)

pub returns-clause-heads : goal.returns-clause-heads
returns-clause-heads c = record {
  each = λ j k lt le below. c.loop-job.invariant.heads j k (omega (arith, lt, c.loop-job-test.false, c.job_count-job-end.ensures.count)) le below;
}
