use Rattle.std.proofs.Common.{◌≡◌, ℕ, ◌+◌, ◌<◌, List, ◌∷◌, length, get_or, drop, ap, ◌∙◌, arith}
use Rattle.std.specs.Prelude.{max}
use Rattle.std.proofs.lemmas.List.{at_drop_more, at_drop_all}
use Rattle.bb_problem.specs.Tree.{total}
use Rattle.bb_onemach.specs.declared.task.Task.{Task}
use Rattle.bb_onemach.specs.Working.{swept}
use Rattle.bb_onemach.proofs.Sweeping.{swept-in, swept-out, swept-nil}
use Rattle.bb_onemach.proofs.task.sweep.Goals as goal
use Rattle.bb_onemach.proofs.task.sweep.Goals.{then-head-task, else-head-task}

-- a value that a read of a place gives past the end
abbrev no_task : Task
no_task = record { head = 0; time = 0; tail = 0 }

abbrev time_of : Task → ℕ
time_of x = x.time

-- the time of the next task is part of what is left
split : (tasks : List Task) (i : ℕ) → i < length tasks → total time_of (drop i tasks) ≡ (get_or tasks i no_task).time + total time_of (drop (i + 1) tasks)
split tasks i lt = at_drop_more (total time_of) tasks i no_task lt

pub loop-task-init : goal.loop-task-init
loop-task-init c = record { room = omega (arith, c.requires.small.times); swept = omega arith }

pub overflow_add-time : goal.overflow_add-time
overflow_add-time c = omega (arith, c.loop-task.invariant.room, split c.args.tasks.now c.loop-task.task-index c.loop-task-test.true)

pub overflow_add-head : goal.overflow_add-head
overflow_add-head c = omega (arith, c.requires.head, c.loop-task.invariant.room, split c.args.tasks.now c.loop-task.task-index c.loop-task-test.true)

pub overflow_add-head-then-head-task : goal.overflow_add-head-then-head-task
overflow_add-head-then-head-task c =
    omega (
      arith,
      c.requires.head,
      c.requires.small.tails c.loop-task.task-index no_task c.loop-task-test.true,
      c.loop-task.invariant.room,
      split c.args.tasks.now c.loop-task.task-index c.loop-task-test.true,
    )

pub loop-task-preserved : goal.loop-task-preserved
loop-task-preserved c =
    let tasks = c.args.tasks.now in
    let i = c.loop-task.task-index in
    let h = c.args.head in
    let time = c.loop-task.time in
    let x = get_or tasks i no_task in
    let rest = drop (i + 1) tasks in
    let room = c.loop-task.invariant.room in
    let parts = split tasks i c.loop-task-test.true in
    let turn : swept h time (drop i tasks) ≡ swept h time (x ∷ rest) = at_drop_more (swept h time) tasks i no_task c.loop-task-test.true in
    elim c.if-head-task.branch [
      | then-head-task w ↦
          let bound : c.if-head-task.bound ≡ max (h + (time + x.time) + x.tail) c.loop-task.bound = w.bound-is ∙ w.max-bound.ensures in
          let later : swept h c.if-head-task.time rest ≡ swept h (time + x.time) rest = ap (λ t. swept h t rest) w.time-is in
          record {
            room = omega (arith, w.time-is, room, parts);
            swept =
                omega (
                  arith,
                  bound,
                  later,
                  c.loop-task.invariant.swept,
                  turn,
                  swept-in h time x rest w.if-head-task.true,
                );
          }
      | else-head-task w ↦ record {
        room = omega (arith, w.time-is, room, parts);
        swept =
            omega (
              arith,
              w.bound-is,
              ap (λ t. swept h t rest) w.time-is,
              c.loop-task.invariant.swept,
              turn,
              swept-out h time x rest w.if-head-task.false,
            );
      }
    ]

pub returns : goal.returns
returns c =
    let h = c.args.head in
    omega (arith, c.loop-task.invariant.swept, at_drop_all (swept h c.loop-task.time) c.args.tasks.now c.loop-task.task-index c.loop-task-test.false, swept-nil h c.loop-task.time)
