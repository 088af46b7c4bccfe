use Rattle.std.proofs.Common.{◌≡◌, ℕ, ◌-◌, ◌<◌, length}
use Rattle.std.specs.Prelude.{max}
use Rattle.bb_shop.specs.Bounds.{greatest, each_from, all_joined}
use Rattle.bb_shop.specs.Loading.{with_load, load_in, unloaded}
use Rattle.bb_shop.specs.Working.{finish_at, load_at, whole_load}
use Rattle.bb_shop.proofs.shop.Shop.last_finish.Given as goal

-- what is so far and the jobs that are left give what all jobs give
abbrev pub invariant-loop-job : goal.invariant-loop-job
invariant-loop-job l = record {
  finish : max l.greatest (greatest (each_from (finish_at l.self l.steps l.jobs l.machines) l.job (length l.self.rows - l.job)))
      ≡ greatest (each_from (finish_at l.self l.steps l.jobs l.machines) 0 (length l.self.rows));
  loads : (m : ℕ) → m < length l.machines →
      with_load (load_in l.loads m) (all_joined (each_from (load_at l.self l.steps l.jobs l.machines m) l.job (length l.self.rows - l.job)))
      ≡ with_load unloaded (whole_load l.self l.steps l.jobs l.machines m);
}
