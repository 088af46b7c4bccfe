use Rattle.std.proofs.Common.{◌≡◌, ◌+◌, ◌<◌, ◌≤◌, List, length, get_or, drop, set, sym, ap, ◌∙◌, arith}
use Rattle.std.proofs.lemmas.List.{at_drop_all, get_or_default}
use Rattle.std.proofs.lemmas.List.Elements.{All-from_recursion}
use Rattle.inst_text.specs.Limits.{max_total}
use Rattle.inst_text.specs.Shop.{row_time}
use Rattle.bb_shop.specs.declared.machine_load.MachineLoad.{MachineLoad}
use Rattle.bb_shop.specs.declared.prepared_operation.PreparedOperation.{PreparedOperation}
use Rattle.bb_shop.specs.Bounds.{Busy, finish, job_load, head_of}
use Rattle.bb_shop.specs.Loading.{unloaded, with_load, load_in}
use Rattle.bb_shop.specs.Tables.{operations_in}
use Rattle.bb_shop.proofs.MachineLoads.{turn, finish-none, job_load-none, finish-step, with_load-step, time-step}
use Rattle.bb_shop.proofs.bounding.run_job.Goals as goal

-- a value that reads of a place give past the end
abbrev no_operation : PreparedOperation
no_operation = record { operation = record { machine = 0; time = 0 }; tail = 0 }

abbrev no_load : MachineLoad
no_load = record { head = 0; time = 0; tail = 0 }

pub with-requires : goal.with-requires
with-requires c =
    let ops = c.args.ops.now in
    let machines = c.args.machines.now in
    let i = c.loop-prepared.prepared-index in
    let p = get_or ops i no_operation in
    let t = turn ops i no_operation c.requires.tails c.loop-prepared-test.true in
    let low : p.operation.machine < length machines = All-from_recursion (λ (q : PreparedOperation). q.operation.machine < length machines) ops c.requires.named i no_operation c.loop-prepared-test.true in
    let inside : p.operation.machine < length c.loop-prepared.loads = omega (arith, low, c.requires.places, c.loop-prepared.auto.loads) in
    let whole = c.loop-prepared.invariant.loads p.operation.machine low in
    let rest = operations_in (drop (i + 1) ops) in
    let room : (load_in c.loop-prepared.loads p.operation.machine).time + p.operation.time ≤ max_total =
    time-step machines (load_in c.loop-prepared.loads p.operation.machine) c.loop-prepared.ready p.operation rest max_total
    (omega (arith, ap (λ (l : MachineLoad). l.time) whole, ap (λ os. (with_load (load_in c.loop-prepared.loads p.operation.machine) (job_load machines p.operation.machine c.loop-prepared.ready os)).time) t.before, c.requires.times p.operation.machine low)) in
    omega (arith, room, ap (λ (l : MachineLoad). l.time) (get_or_default c.loop-prepared.loads p.operation.machine no_load unloaded inside))

pub loop-prepared-preserved : goal.loop-prepared-preserved
loop-prepared-preserved c =
    let ops = c.args.ops.now in
    let machines = c.args.machines.now in
    let loads = c.loop-prepared.loads in
    let ready = c.loop-prepared.ready in
    let so_far = c.loop-prepared.invariant in
    let i = c.loop-prepared.prepared-index in
    let p = get_or ops i no_operation in
    let o = p.operation in
    let rest = operations_in (drop (i + 1) ops) in
    let t = turn ops i no_operation c.requires.tails c.loop-prepared-test.true in
    let low : o.machine < length machines = All-from_recursion (λ (q : PreparedOperation). q.operation.machine < length machines) ops c.requires.named i no_operation c.loop-prepared-test.true in
    let inside : o.machine < length loads = omega (arith, low, c.requires.places, c.loop-prepared.auto.loads) in
    let head : c.max-head.result ≡ head_of machines ready o = c.max-head.ensures in
    let sum : row_time (operations_in (drop i ops)) ≡ o.time + row_time rest = ap row_time t.before in
    let put : c.with.result ≡ with_load (load_in loads o.machine) (Busy (head_of machines ready o) o.time p.tail) =
    c.with.ensures ∙ ap (λ h. with_load (get_or loads o.machine no_load) (Busy h o.time p.tail)) head
    ∙ ap (λ (l : MachineLoad). with_load l (Busy (head_of machines ready o) o.time p.tail)) (get_or_default loads o.machine no_load unloaded inside) in
    record {
      early = omega (arith, sum, head, so_far.early, so_far.short, c.requires.within.each o.machine);
      short = omega (arith, sum, so_far.short);
      finish = ap (λ h. finish machines (h + o.time) rest) head ∙ sym (finish-step machines ready o rest) ∙ ap (finish machines ready) (sym t.before) ∙ so_far.finish;
      loads = λ m lt.
          ap (λ x. with_load (load_in (set loads o.machine x) m) (job_load machines m (c.max-head.result + o.time) rest)) put
          ∙ ap (λ h. with_load (load_in (set loads o.machine (with_load (load_in loads o.machine) (Busy (head_of machines ready o) o.time p.tail))) m) (job_load machines m (h + o.time) rest)) head
          ∙ with_load-step machines loads m ready p.tail o rest inside t.tail
          ∙ ap (λ os. with_load (load_in loads m) (job_load machines m ready os)) (sym t.before)
          ∙ so_far.loads m lt;
    }

pub returns-clause-finish : goal.returns-clause-finish
returns-clause-finish c =
    let ops = c.args.ops.now in
    let machines = c.args.machines.now in
    sym (finish-none machines c.loop-prepared.ready)
    ∙ sym (at_drop_all (λ (ps : List PreparedOperation). finish machines c.loop-prepared.ready (operations_in ps)) ops c.loop-prepared.prepared-index c.loop-prepared-test.false)
    ∙ c.loop-prepared.invariant.finish

pub returns-clause-loads : goal.returns-clause-loads
returns-clause-loads c = λ m lt.
    let ops = c.args.ops.now in
    let machines = c.args.machines.now in
    let l = load_in c.loop-prepared.loads m in
    ap (with_load l) (sym (job_load-none machines m c.loop-prepared.ready))
    ∙ sym (at_drop_all (λ (ps : List PreparedOperation). with_load l (job_load machines m c.loop-prepared.ready (operations_in ps))) ops c.loop-prepared.prepared-index c.loop-prepared-test.false)
    ∙ c.loop-prepared.invariant.loads m lt
