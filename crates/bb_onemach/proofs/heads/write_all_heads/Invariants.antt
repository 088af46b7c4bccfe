use Rattle.std.proofs.Common.{◌≡◌, ◌-◌, length}
use Rattle.std.specs.Prelude.{max}
use Rattle.bb_shop.specs.Bounds.{greatest, each_from}
use Rattle.bb_shop.specs.Working.{finish_at}
use Rattle.bb_onemach.proofs.HeadTables.{HaveHeads}
use Rattle.bb_onemach.proofs.heads.write_all_heads.Given as goal

abbrev pub invariant-loop-job : goal.invariant-loop-job
invariant-loop-job l = record {
  finish : max l.finish (greatest (each_from (finish_at l.shop l.steps l.jobs l.machines) l.job (length l.shop.rows - l.job)))
      ≡ greatest (each_from (finish_at l.shop l.steps l.jobs l.machines) 0 (length l.shop.rows));
  heads : HaveHeads l.shop l.steps l.jobs l.machines l.job l.table;
}
