use Rattle.std.proofs.Common.{◌≡◌, ◌+◌, ℕ, List, [], length, map, replicate, ap, ◌∙◌, arith}
use Rattle.std.specs.Global.{Vec}
use Rattle.std.proofs.lemmas.List.{take-replicate}
use Rattle.inst_text.specs.Limits.{max_jobs, max_machines}
use Rattle.bb_shop.proofs.Planned.{same_state}
use Rattle.bb_shop.proofs.planning.Schedule.opened.Goals as goal

pub returns-clause-opened : goal.returns-clause-opened
returns-clause-opened c =
    let s = c.args.shop.now in
    let count : c.loop-job._job ≡ length s.rows = omega (arith, c.loop-job-test.false, c.loop-job.auto._job-end, c.job_count-job-end.ensures.count) in
    let jobs = c.job_count.result in
    let machines = c.machine_count.result in
    same_state (map (λ (row : Vec ℕ). row.items) c.loop-job.starts.items) c.in_ok-from_slice.field-0.items c.in_ok-from_slice-2.field-0.items (replicate (length s.rows) []) (replicate (length s.rows) 0) (replicate s.machines 0)
    (c.loop-job.invariant ∙ ap (λ n. replicate {A = List ℕ} n []) count)
    (c.in_ok-from_slice.ensures.items ∙ take-replicate jobs (max_jobs + max_machines) 0 (omega (arith, c.job_count.ensures.count, c.job_count.ensures.within_limits.jobs)) ∙ ap (λ n. replicate {A = ℕ} n 0) c.job_count.ensures.count)
    (c.in_ok-from_slice-2.ensures.items ∙ take-replicate machines (max_jobs + max_machines) 0 (omega (arith, c.machine_count.ensures.count, c.machine_count.ensures.within_limits.machines)) ∙ ap (λ n. replicate {A = ℕ} n 0) c.machine_count.ensures.count)
