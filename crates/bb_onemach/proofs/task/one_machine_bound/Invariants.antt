use Rattle.std.proofs.Common.{◌≡◌, max, drop, map}
use Rattle.bb_shop.specs.Bounds.{greatest}
use Rattle.bb_onemach.specs.declared.task.Task.{Task}
use Rattle.bb_onemach.specs.Working.{swept}
use Rattle.bb_onemach.proofs.Sweeping.{sweeps}
use Rattle.bb_onemach.proofs.task.one_machine_bound.Given as goal

abbrev pub invariant-loop-task : goal.invariant-loop-task
invariant-loop-task l = max l.bound (greatest (map (λ (x : Task). swept x.head 0 l.tasks) (drop l.task-index l.tasks))) ≡ sweeps l.tasks
