use Rattle.std.proofs.Common.{◌≡◌, ◌≤◌, map, take}
use Rattle.std.specs.Prelude.{filter}
use Rattle.bb_onemach.specs.Visits.{is_left}
use Rattle.bb_onemach.specs.Working.{task_by}
use Rattle.bb_onemach.proofs.task.put_tasks.Given as goal

-- the table has what is left of the operations so far
abbrev pub invariant-loop-visit : goal.invariant-loop-visit
invariant-loop-visit l = record {
  count : l.count ≤ l.visit-index;
  tasks : take l.count l.tasks ≡ map (task_by l.machines l.heads) (filter (is_left l.steps) (take l.visit-index l.row));
}
