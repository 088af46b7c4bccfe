use Rattle.std.proofs.Common.{List, map, arith}
use Rattle.std.proofs.lemmas.List.{at_drop_more, at_drop_all}
use Rattle.bb_shop.specs.Bounds.{greatest}
use Rattle.bb_onemach.specs.declared.task.Task.{Task}
use Rattle.bb_onemach.specs.Working.{swept}
use Rattle.bb_onemach.proofs.Sweeping.{same_itself, sweeps_are}
use Rattle.bb_onemach.proofs.task.one_machine_bound.Goals as goal

pub loop-task-preserved : goal.loop-task-preserved
loop-task-preserved c =
    let tasks = c.args.tasks.now in
    let i = c.loop-task.task-index in
    let turn = at_drop_more (λ (xs : List Task). greatest (map (λ (x : Task). swept x.head 0 tasks) xs)) tasks i (record { head = 0; time = 0; tail = 0 }) c.loop-task-test.true in
    omega (arith, c.max-bound.ensures, c.sweep.ensures, turn, c.loop-task.invariant)

pub returns : goal.returns
returns c =
    let tasks = c.args.tasks.now in
    let end = at_drop_all (λ (xs : List Task). greatest (map (λ (x : Task). swept x.head 0 tasks) xs)) tasks c.loop-task.task-index c.loop-task-test.false in
    omega (arith, end, c.loop-task.invariant, sweeps_are tasks tasks (same_itself tasks) c.requires.falls)
