use Rattle.std.proofs.Common.{◌≡◌, suc, ◌+◌, ◌-◌, ◌<◌, length, get_or, sym, ap, ◌∙◌, arith}
use Rattle.std.specs.Prelude.{max}
use Rattle.inst_text.specs.declared.shop.Operation.{Operation}
use Rattle.inst_text.specs.Shop.{row_time, rows_time}
use Rattle.bb_shop.specs.TreeLawsHold.Times.{row_time-drop, row_time-le}
use Rattle.bb_shop.specs.declared.machine_load.MachineLoad.{MachineLoad}
use Rattle.bb_shop.specs.Plans.{row_at}
use Rattle.bb_shop.specs.Bounds.{finish, job_load, greatest, each_from, all_joined}
use Rattle.bb_shop.specs.Loading.{unloaded, with_load, load_in}
use Rattle.bb_shop.specs.Tables.{operations_in}
use Rattle.bb_shop.specs.Working.{left_of, finish_at, load_at, whole_load}
use Rattle.bb_shop.specs.TreeLawsHold.Tabled.{HaveTails-prepared_row, operations_in-prepared_row, all-prepared_row, all-drop, named-row}
use Rattle.bb_shop.proofs.MachineLoads.{time-with_load, IsSmall-from, time-small, greatest-step, load-step}
use Rattle.bb_shop.proofs.shop.Shop.last_finish.Goals as goal

pub run_job-requires-clause-tails : goal.run_job-requires-clause-tails
run_job-requires-clause-tails c = rw c.rest-rest.ensures (HaveTails-prepared_row (left_of c.args.self.now c.args.steps.now c.loop-job.job))

pub run_job-requires-clause-named : goal.run_job-requires-clause-named
run_job-requires-clause-named c =
    let s = c.args.self.now in
    let j = c.loop-job.job in
    let named = named-row s j c.job_count-job-end.ensures.within_limits (omega (arith, c.loop-job-test.true, c.job_count-job-end.ensures.count)) in
    let left = all-drop (λ (o : Operation). o.machine < s.machines) (get_or c.args.steps.now j 0) (row_at s.rows j) named in
    rw (c.rest-rest.ensures, c.requires.fit.each_machine) (all-prepared_row s.machines (left_of s c.args.steps.now j) left)

pub run_job-requires-clause-time : goal.run_job-requires-clause-time
run_job-requires-clause-time c =
    let s = c.args.self.now in
    let j = c.loop-job.job in
    let left = left_of s c.args.steps.now j in
    let os : operations_in c.rest-rest.result.now ≡ left = ap operations_in c.rest-rest.ensures ∙ operations_in-prepared_row left in
    omega (arith, ap row_time os, row_time-drop (get_or c.args.steps.now j 0) (row_at s.rows j), row_time-le s.rows j, c.job_count-job-end.ensures.within_limits.times)

pub run_job-requires-clause-times : goal.run_job-requires-clause-times
run_job-requires-clause-times c = λ m lt.
    let s = c.args.self.now in
    let j = c.loop-job.job in
    let steps = c.args.steps.now in
    let jobs = c.args.jobs.now in
    let machines = c.args.machines.now in
    let limits = c.job_count-job-end.ensures.within_limits in
    let left = left_of s steps j in
    let l = load_in c.loop-job.loads m in
    let os : operations_in c.rest-rest.result.now ≡ left = ap operations_in c.rest-rest.ensures ∙ operations_in-prepared_row left in
    let n = length s.rows - (j + 1) in
    let e : length s.rows - j ≡ suc n = omega (arith, c.loop-job-test.true, c.job_count-job-end.ensures.count) in
    let rest = all_joined (each_from (load_at s steps jobs machines m) (j + 1) n) in
    let split = load-step s steps jobs machines m j n l in
    let whole : with_load l (all_joined (each_from (load_at s steps jobs machines m) j (suc n))) ≡ with_load unloaded (whole_load s steps jobs machines m) =
    ap (λ k. with_load l (all_joined (each_from (load_at s steps jobs machines m) j k))) (sym e) ∙ c.loop-job.invariant.loads m lt in
    let small = IsSmall-from s steps jobs machines m 0 (length s.rows) limits c.requires.fit.jobs_ready c.requires.fit.machines_ready (λ i. omega (arith, row_time-le s.rows i, limits.times)) in
    omega (arith, ap (λ o. (with_load l (job_load machines m (get_or jobs j 0) o)).time) os, time-with_load (with_load l (load_at s steps jobs machines m j)) rest, ap (λ (x : MachineLoad). x.time) split, ap (λ (x : MachineLoad). x.time) whole, time-small (rows_time s.rows) (whole_load s steps jobs machines m) small, limits.times)

pub loop-job-preserved : goal.loop-job-preserved
loop-job-preserved c =
    let s = c.args.self.now in
    let j = c.loop-job.job in
    let steps = c.args.steps.now in
    let jobs = c.args.jobs.now in
    let machines = c.args.machines.now in
    let left = left_of s steps j in
    let os : operations_in c.rest-rest.result.now ≡ left = ap operations_in c.rest-rest.ensures ∙ operations_in-prepared_row left in
    let n = length s.rows - (j + 1) in
    let e : length s.rows - j ≡ suc n = omega (arith, c.loop-job-test.true, c.job_count-job-end.ensures.count) in
    let ready = get_or jobs j 0 in record {
      finish =
          let last : c.run_job.result ≡ finish_at s steps jobs machines j = c.run_job.ensures.finish ∙ ap (finish machines ready) os in
          let so_far = c.loop-job.invariant.finish in
          let at : max c.loop-job.greatest (greatest (each_from (finish_at s steps jobs machines) j (suc n))) ≡ greatest (each_from (finish_at s steps jobs machines) 0 (length s.rows)) =
          ap (λ k. max c.loop-job.greatest (greatest (each_from (finish_at s steps jobs machines) j k))) (sym e) ∙ so_far in
          omega (arith, at, c.max-greatest.ensures, last, greatest-step (finish_at s steps jobs machines) j n);
      loads = λ m lt.
          let l = load_in c.loop-job.loads m in
          let rest = all_joined (each_from (load_at s steps jobs machines m) (j + 1) n) in
          ap (λ x. with_load x rest) (c.run_job.ensures.loads m lt ∙ ap (λ o. with_load l (job_load machines m ready o)) os)
          ∙ load-step s steps jobs machines m j n l
          ∙ ap (λ k. with_load l (all_joined (each_from (load_at s steps jobs machines m) j k))) (sym e)
          ∙ c.loop-job.invariant.loads m lt;
    }
