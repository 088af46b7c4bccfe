use Rattle.std.proofs.Common.{◌≡◌, ℕ, ◌+◌, ◌*◌, ◌<◌, ◌≤◌, length, drop}
use Rattle.inst_text.specs.Limits.{max_total}
use Rattle.inst_text.specs.Shop.{row_time}
use Rattle.bb_shop.specs.Bounds.{finish, job_load}
use Rattle.bb_shop.specs.Loading.{with_load, load_in}
use Rattle.bb_shop.specs.Tables.{operations_in}
use Rattle.bb_shop.proofs.bounding.run_job.Given as goal

-- what is left of the job gives what all of it gives
abbrev pub invariant-loop-prepared : goal.invariant-loop-prepared
invariant-loop-prepared l = record {
  early : l.ready + row_time (operations_in (drop l.prepared-index l.ops)) ≤ 2 * max_total;
  short : row_time (operations_in (drop l.prepared-index l.ops)) ≤ max_total;
  finish : finish l.machines l.ready (operations_in (drop l.prepared-index l.ops)) ≡ finish l.machines l.from (operations_in l.ops);
  loads : (m : ℕ) → m < length l.machines →
      with_load (load_in l.loads m) (job_load l.machines m l.ready (operations_in (drop l.prepared-index l.ops)))
      ≡ with_load (load_in l.initial.loads m) (job_load l.machines m l.from (operations_in l.ops));
}
