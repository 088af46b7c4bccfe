use Rattle.std.proofs.Common.{◌≡◌, ℕ, suc, ◌+◌, ◌-◌, ◌<◌, List, [], length, get_or, map, take, sym, ap, subst, ◌∙◌, arith}
use Rattle.std.specs.Prelude.{max}
use Rattle.std.specs.Global.{Vec}
use Rattle.std.proofs.lemmas.List.{get_or-map, length-map}
use Rattle.bb_shop.specs.Bounds.{greatest, each_from}
use Rattle.bb_onemach.specs.declared.visit.Visit.{Visit}
use Rattle.bb_onemach.specs.Bounds.{bound_by}
use Rattle.bb_onemach.specs.Thresholds.{one_machine_bound}
use Rattle.bb_onemach.specs.Visits.{left_tasks}
use Rattle.bb_onemach.specs.Working.{IsRow, AreSmall, Falls}
use Rattle.bb_onemach.proofs.RowTasks.{row_placed, row_tasks, row_small, row_falls, row_bound, machine_part, bound_parts}
use Rattle.bb_onemach.proofs.active_shop.bound_over.Goals as goal

-- the list at this place is that of a machine
row_here : (rows : List (Vec Visit)) (i : ℕ) (v : Vec Visit) (row : List Visit) → i < length rows → v ≡ get_or rows i v → row ≡ v.items → row ≡ get_or (map (λ r. r.items) rows) i []
row_here rows i v row lt is items = items ∙ ap (λ r. r.items) is ∙ sym (get_or-map (λ (r : Vec Visit). r.items) rows i v [] lt)

is_row : (c : goal.After-put_tasks-arg-1) → IsRow c.args.shop.now c.loop-row.row-index c.as_slice.result.now
is_row c =
    let i = c.loop-row.row-index in
    let inside : i < c.args.shop.now.machines = omega (arith, c.loop-row-test.true, c.requires.rows.count, length-map c.args.rows.now (λ (r : Vec Visit). r.items)) in
    subst (IsRow c.args.shop.now i) (sym (row_here c.args.rows.now i c.row-item.result c.as_slice.result.now c.loop-row-test.true c.row-item.is c.as_slice.ensures.value)) (c.requires.rows.each i inside)

here : (c : goal.After-tasks-1) → IsRow c.args.shop.now c.loop-row.row-index c.as_slice.result.now
here c =
    let i = c.loop-row.row-index in
    let inside : i < c.args.shop.now.machines = omega (arith, c.loop-row-test.true, c.requires.rows.count, length-map c.args.rows.now (λ (r : Vec Visit). r.items)) in
    subst (IsRow c.args.shop.now i) (sym (row_here c.args.rows.now i c.row-item.result c.as_slice.result.now c.loop-row-test.true c.row-item.is c.as_slice.ensures.value)) (c.requires.rows.each i inside)

pub loop-row-init : goal.loop-row-init
loop-row-init c =
    let s = c.args.shop.now in
    let steps = c.args.steps.now in
    let jobs = c.args.jobs.now in
    let machines = c.args.machines.now in
    let f = machine_part s steps jobs machines in
    let all : s.machines - 0 ≡ s.machines = omega arith in
    let start : max c.max-bound.result (greatest (each_from f 0 (s.machines - 0))) ≡ bound_by s steps jobs machines =
    omega (
      arith,
      c.max-bound.ensures,
      c.write_all_heads-finish.ensures.finish,
      c.greatest_of.ensures,
      ap (λ n. greatest (each_from f 0 n)) all,
      bound_parts s steps jobs machines,
    ) in
    start

pub put_tasks-put-requires-clause-placed : goal.put_tasks-put-requires-clause-placed
put_tasks-put-requires-clause-placed c =
    row_placed c.args.shop.now c.args.steps.now c.args.jobs.now c.args.machines.now c.write_all_heads-finish.new.table c.machine_count.result c.loop-row.row-index c.as_slice.result.now
    c.machine_count.ensures.within_limits c.requires.fit (omega (arith, c.requires.heads, c.write_all_heads-finish.ensures.length)) c.machine_count.ensures.count (is_row c)

-- the tasks in the table are those of the machine
tasks_are : (c : goal.After-tasks-1)
    → take c.put_tasks-put.result c.put_tasks-put.new.tasks ≡ left_tasks c.args.shop.now c.args.steps.now c.args.jobs.now c.args.machines.now c.as_slice.result.now
tasks_are c =
    c.put_tasks-put.ensures.tasks
    ∙ row_tasks c.args.shop.now c.args.steps.now c.args.jobs.now c.args.machines.now c.write_all_heads-finish.new.table c.machine_count.result c.loop-row.row-index c.as_slice.result.now
    c.machine_count.ensures.within_limits c.write_all_heads-finish.ensures.heads c.machine_count.ensures.count (here c)

pub one_machine_bound-requires-clause-small : goal.one_machine_bound-requires-clause-small
one_machine_bound-requires-clause-small c =
    subst AreSmall (sym (tasks_are c))
    (row_small c.args.shop.now c.args.steps.now c.args.jobs.now c.args.machines.now c.loop-row.row-index c.as_slice.result.now c.machine_count.ensures.within_limits c.requires.fit (here c))

pub one_machine_bound-requires-clause-falls : goal.one_machine_bound-requires-clause-falls
one_machine_bound-requires-clause-falls c =
    subst Falls (sym (tasks_are c)) (row_falls c.args.shop.now c.args.steps.now c.args.jobs.now c.args.machines.now c.loop-row.row-index c.as_slice.result.now (here c))

pub loop-row-preserved : goal.loop-row-preserved
loop-row-preserved c =
    let s = c.args.shop.now in
    let steps = c.args.steps.now in
    let jobs = c.args.jobs.now in
    let machines = c.args.machines.now in
    let i = c.loop-row.row-index in
    let row = c.as_slice.result.now in
    let f = machine_part s steps jobs machines in
    let inside : i < s.machines = omega (arith, c.loop-row-test.true, c.requires.rows.count, length-map c.args.rows.now (λ (r : Vec Visit). r.items)) in
    let is : IsRow s i row = subst (IsRow s i) (sym (row_here c.args.rows.now i c.row-item.result row c.loop-row-test.true c.row-item.is c.as_slice.ensures.value)) (c.requires.rows.each i inside) in
    let tasks : take c.put_tasks-put.result c.put_tasks-put.new.tasks ≡ left_tasks s steps jobs machines row =
    c.put_tasks-put.ensures.tasks
    ∙ row_tasks s steps jobs machines c.write_all_heads-finish.new.table c.machine_count.result i row c.machine_count.ensures.within_limits c.write_all_heads-finish.ensures.heads c.machine_count.ensures.count is in
    let here : c.one_machine_bound.result ≡ f i = c.one_machine_bound.ensures ∙ ap one_machine_bound tasks ∙ row_bound s steps jobs machines i row is in
    let n = s.machines - (i + 1) in
    let e : s.machines - i ≡ suc n = omega (arith, inside) in
    let at : max c.loop-row.bound (greatest (each_from f i (suc n))) ≡ bound_by s steps jobs machines =
    ap (λ k. max c.loop-row.bound (greatest (each_from f i k))) (sym e) ∙ c.loop-row.invariant in
    let more : max c.max-bound-in-loop-row.result (greatest (each_from f (i + 1) n)) ≡ bound_by s steps jobs machines =
    omega (arith, at, c.max-bound-in-loop-row.ensures, here) in
    more

pub returns : goal.returns
returns c =
    let s = c.args.shop.now in
    let f = machine_part s c.args.steps.now c.args.jobs.now c.args.machines.now in
    let i = c.loop-row.row-index in
    let none : s.machines - i ≡ 0 = omega (arith, c.loop-row-test.false, c.requires.rows.count, length-map c.args.rows.now (λ (r : Vec Visit). r.items)) in
    omega (arith, c.loop-row.invariant, ap (λ n. greatest (each_from f i n)) none)
