use Rattle.std.proofs.Common.{◌≡◌, ℕ, ◌+◌, ◌*◌, ◌<◌, ◌≤◌, drop}
use Rattle.inst_text.specs.Limits.{max_total}
use Rattle.inst_text.specs.Shop.{row_time}
use Rattle.bb_shop.specs.Bounds.{finish}
use Rattle.bb_shop.specs.Dispatching.{number_in}
use Rattle.bb_shop.specs.Tables.{operations_in}
use Rattle.bb_onemach.specs.Visits.{heads}
use Rattle.bb_onemach.proofs.heads.write_heads.Given as goal

-- what is left of the job gives what all of it gives, and the heads so far are written
abbrev pub invariant-loop-step : goal.invariant-loop-step
invariant-loop-step l = record {
  early : l.ready + row_time (operations_in (drop l.step l.operations)) ≤ 2 * max_total;
  short : row_time (operations_in (drop l.step l.operations)) ≤ max_total;
  finish : finish l.machines l.ready (operations_in (drop l.step l.operations)) ≡ finish l.machines l.from (operations_in l.operations);
  rest : (k : ℕ) → number_in (heads l.machines l.ready (operations_in (drop l.step l.operations))) k ≡ number_in (heads l.machines l.from (operations_in l.operations)) (l.step + k);
  there : (k : ℕ) → k < l.step → number_in l.table (l.place + k) ≡ number_in (heads l.machines l.from (operations_in l.operations)) k;
  before : (k : ℕ) → k < l.place → number_in l.table k ≡ number_in l.initial.table k;
  behind : (k : ℕ) → l.place + l.step ≤ k → number_in l.table k ≡ number_in l.initial.table k;
}
