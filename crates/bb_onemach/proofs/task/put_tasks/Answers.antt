use Rattle.std.proofs.Common.{◌≡◌, ℕ, ◌+◌, ◌<◌, true, false, List, [], ◌∷◌, ◌++◌, length, get_or, set, map, take, sym, ap, ◌∙◌, arith}
use Rattle.std.specs.Prelude.{filter}
use Rattle.std.proofs.lemmas.Bool.{cond-true, cond-false, le-leb, lt-leb}
use Rattle.std.proofs.lemmas.List.{take_more, take_all, take-set-le, get_or-set_same, length-set, map-append, append-nil}
use Rattle.std.proofs.lemmas.List.Elements.{filter_more}
use Rattle.bb_shop.specs.Dispatching.{number_in}
use Rattle.bb_onemach.specs.declared.task.Task.{Task}
use Rattle.bb_onemach.specs.declared.visit.Visit.{Visit}
use Rattle.bb_onemach.specs.Visits.{is_left}
use Rattle.bb_onemach.specs.Working.{task_by}
use Rattle.bb_onemach.proofs.task.put_tasks.Goals as goal
use Rattle.bb_onemach.proofs.task.put_tasks.Goals.{then-steps-job, else-steps-job}

abbrev no_visit : Visit
no_visit = record { job = 0; step = 0; time = 0; tail = 0 }

-- one task more in the table
more : (tasks : List Task) (n : ℕ) (x : Task) → n < length tasks → take (n + 1) (set tasks n x) ≡ take n tasks ++ x ∷ []
more tasks n x lt =
    take_more (set tasks n x) n x (omega (arith, lt, length-set tasks n x))
    ∙ ap (λ xs. xs ++ get_or (set tasks n x) n x ∷ []) (take-set-le n tasks n x (omega arith))
    ∙ ap (λ y. take n tasks ++ y ∷ []) (get_or-set_same tasks n x x lt)

pub bounds-tasks-count : goal.bounds-tasks-count
bounds-tasks-count c = omega (arith, c.loop-visit.invariant.count, c.loop-visit-test.true, c.requires.places, c.loop-visit.auto.tasks)

pub loop-visit-preserved : goal.loop-visit-preserved
loop-visit-preserved c =
    let row = c.args.row.now in
    let steps = c.args.steps.now in
    let i = c.loop-visit.visit-index in
    let n = c.loop-visit.count in
    let tasks = c.loop-visit.tasks in
    let v = get_or row i no_visit in
    let f = task_by c.args.machines c.args.heads.now in
    let p = is_left steps in
    let so_far = c.loop-visit.invariant.tasks in
    let turn = filter_more p row i no_visit c.loop-visit-test.true in
    elim c.if-steps-job.branch [
      | then-steps-job w ↦
          let passes : p v ≡ true = le-leb (number_in steps v.job) v.step w.if-steps-job.true in
          let inside : n < length tasks = omega (arith, c.loop-visit.invariant.count, c.loop-visit-test.true, c.requires.places, c.loop-visit.auto.tasks) in
          record {
            count = omega (arith, w.count-is, c.loop-visit.invariant.count);
            tasks =
                ap (λ k. take k c.if-steps-job.tasks) w.count-is ∙ ap (take (n + 1)) w.tasks-is ∙ more tasks n (f v) inside ∙ ap (λ xs. xs ++ f v ∷ []) so_far
                ∙ sym (ap (map f) (turn ∙ ap (λ vs. filter p (take i row) ++ vs) (cond-true (p v) (v ∷ []) [] passes)) ∙ map-append f (filter p (take i row)) (v ∷ []));
          }
      | else-steps-job w ↦
          let out : p v ≡ false = lt-leb (number_in steps v.job) v.step w.if-steps-job.false in
          record {
            count = omega (arith, w.count-is, c.loop-visit.invariant.count);
            tasks =
                ap (λ k. take k c.if-steps-job.tasks) w.count-is ∙ ap (take n) w.tasks-is ∙ so_far
                ∙ sym (ap (map f) (turn ∙ ap (λ vs. filter p (take i row) ++ vs) (cond-false (p v) (v ∷ []) [] out) ∙ append-nil (filter p (take i row))));
          }
    ]

pub returns-clause-count : goal.returns-clause-count
returns-clause-count c = omega (arith, c.loop-visit.invariant.count, c.loop-visit.auto.visit-index-end, c.loop-visit.auto.tasks, c.requires.places)

pub returns-clause-tasks : goal.returns-clause-tasks
returns-clause-tasks c =
    c.loop-visit.invariant.tasks
    ∙ ap (λ vs. map (task_by c.args.machines c.args.heads.now) (filter (is_left c.args.steps.now) vs)) (take_all c.loop-visit.visit-index c.args.row.now c.loop-visit-test.false)
