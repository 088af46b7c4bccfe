use Rattle.std.proofs.Common.{◌≡◌, ◌+◌, ◌≤◌, max, drop}
use Rattle.inst_text.specs.Limits.{max_total}
use Rattle.bb_problem.specs.Tree.{total}
use Rattle.bb_onemach.specs.declared.task.Task.{Task}
use Rattle.bb_onemach.specs.Working.{swept}
use Rattle.bb_onemach.proofs.task.sweep.Given as goal

-- the bound so far and that of the tasks that are left make up the whole
abbrev pub invariant-loop-task : goal.invariant-loop-task
invariant-loop-task l = record {
  room : l.time + total (λ (x : Task). x.time) (drop l.task-index l.tasks) ≤ max_total;
  swept : max l.bound (swept l.head l.time (drop l.task-index l.tasks)) ≡ swept l.head 0 l.tasks;
}
