use Rattle.std.proofs.Common.{◌≡◌, ℕ, suc, ◌+◌, ◌<◌, inl, inr, List, [], ◌∷◌, length, get_or, set, drop, refl, sym, ap, ◌∙◌, arith}
use Rattle.std.proofs.lemmas.Bool.{cases_lt}
use Rattle.std.proofs.lemmas.List.{at_drop_more, drop_all, length-map, get_or-set_same, get_or-set_other}
use Rattle.inst_text.specs.Shop.{row_time}
use Rattle.bb_shop.specs.declared.prepared_operation.PreparedOperation.{PreparedOperation}
use Rattle.bb_shop.specs.Bounds.{finish, head_of}
use Rattle.bb_shop.specs.Dispatching.{number_in}
use Rattle.bb_shop.specs.Tables.{operations_in}
use Rattle.bb_shop.specs.TreeLawsHold.Grown.{finish-nil, finish-cons}
use Rattle.bb_onemach.specs.Visits.{heads}
use Rattle.bb_onemach.proofs.HeadTables.{heads-cons, length-heads}
use Rattle.bb_onemach.proofs.heads.write_heads.Goals as goal

abbrev no_operation : PreparedOperation
no_operation = record { operation = record { machine = 0; time = 0 }; tail = 0 }

-- the operations that are left: the next one and those after it
split : (ops : List PreparedOperation) (i : ℕ) → i < length ops → operations_in (drop i ops) ≡ (get_or ops i no_operation).operation ∷ operations_in (drop (i + 1) ops)
split ops i lt = at_drop_more operations_in ops i no_operation lt

pub loop-step-init : goal.loop-step-init
loop-step-init c = record {
  early = omega (arith, c.requires.start, c.requires.time);
  short = c.requires.time;
  finish = refl;
  rest = λ k. ap (number_in (heads c.args.machines.now c.args.from (operations_in c.args.operations.now))) (let e : k ≡ 0 + k = omega arith in e);
  there = λ k lt. absurd (omega (arith, lt));
  before = λ k lt. refl;
  behind = λ k le. refl;
}

pub overflow_add-ready : goal.overflow_add-ready
overflow_add-ready c =
    let ops = c.args.operations.now in
    let i = c.loop-step.step in
    let o = (get_or ops i no_operation).operation in
    omega (
      arith,
      c.max-head.ensures,
      ap row_time (split ops i c.loop-step-test.true),
      c.loop-step.invariant.early,
      c.loop-step.invariant.short,
      c.requires.within.each o.machine,
    )

pub loop-step-preserved : goal.loop-step-preserved
loop-step-preserved c =
    let ops = c.args.operations.now in
    let machines = c.args.machines.now in
    let i = c.loop-step.step in
    let place = c.args.place in
    let table = c.loop-step.table in
    let ready = c.loop-step.ready in
    let o = (get_or ops i no_operation).operation in
    let rest = operations_in (drop (i + 1) ops) in
    let parts = split ops i c.loop-step-test.true in
    let so_far = c.loop-step.invariant in
    let v = c.max-head.result in
    let head : v ≡ head_of machines ready o = c.max-head.ensures in
    let whole = heads machines c.args.from (operations_in ops) in
    let inside : place + i < length table = omega (arith, c.requires.places, c.loop-step.auto.table, c.loop-step-test.true) in
    let first : v ≡ number_in whole (i + 0) =
    head ∙ sym (ap (λ (hs : List ℕ). number_in hs 0) (heads-cons machines ready o rest)) ∙ ap (λ os. number_in (heads machines ready os) 0) (sym parts) ∙ so_far.rest 0 in
    record {
      early = omega (arith, head, ap row_time parts, so_far.early, so_far.short, c.requires.within.each o.machine);
      short = omega (arith, ap row_time parts, so_far.short);
      finish =
          ap (λ t. finish machines (t + o.time) rest) head ∙ sym (finish-cons machines ready o rest) ∙ ap (finish machines ready) (sym parts) ∙ so_far.finish;
      rest =
          λ k.
          ap (λ t. number_in (heads machines (t + o.time) rest) k) head
          ∙ sym (ap (λ (hs : List ℕ). number_in hs (suc k)) (heads-cons machines ready o rest))
          ∙ ap (λ os. number_in (heads machines ready os) (suc k)) (sym parts) ∙ so_far.rest (suc k)
          ∙ ap (number_in whole) (let e : i + suc k ≡ i + 1 + k = omega arith in e);
      there =
          λ k lt.
          elim (cases_lt k i) [
            | inl sooner ↦ get_or-set_other table (place + i) (place + k) v 0 (λ e. omega (arith, e, sooner)) ∙ so_far.there k sooner
            | inr le ↦
                let same : k ≡ i = omega (arith, le, lt) in
                ap (λ n. number_in (set table (place + i) v) (place + n)) same ∙ get_or-set_same table (place + i) v 0 inside ∙ first
                ∙ ap (number_in whole) (let e : i + 0 ≡ k = omega (arith, same) in e)
          ];
      before = λ k lt. get_or-set_other table (place + i) k v 0 (λ e. omega (arith, e, lt)) ∙ so_far.before k lt;
      behind = λ k le. get_or-set_other table (place + i) k v 0 (λ e. omega (arith, e, le)) ∙ so_far.behind k (omega (arith, le));
    }

pub returns-clause-finish : goal.returns-clause-finish
returns-clause-finish c =
    let rest : operations_in (drop c.loop-step.step c.args.operations.now) ≡ [] = ap operations_in (drop_all c.loop-step.step c.args.operations.now (omega (arith, c.loop-step-test.false))) in
    sym (finish-nil c.args.machines.now c.loop-step.ready) ∙ ap (finish c.args.machines.now c.loop-step.ready) (sym rest) ∙ c.loop-step.invariant.finish

pub returns-clause-written : goal.returns-clause-written
returns-clause-written c =
    let hs = heads c.args.machines.now c.args.from (operations_in c.args.operations.now) in
    let size : length hs ≡ length c.args.operations.now =
    length-heads c.args.machines.now c.args.from (operations_in c.args.operations.now) ∙ length-map c.args.operations.now (λ (p : PreparedOperation). p.operation) in
    let all : c.loop-step.step ≡ length c.args.operations.now = omega (arith, c.loop-step-test.false, c.loop-step.auto.step-end) in
    record {
      count = c.loop-step.auto.table;
      there = λ k lt. c.loop-step.invariant.there k (omega (arith, lt, size, all));
      before = c.loop-step.invariant.before;
      behind = λ k le. c.loop-step.invariant.behind k (omega (arith, le, size, all));
    }
