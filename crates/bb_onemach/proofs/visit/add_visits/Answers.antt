use Rattle.std.proofs.Common.{◌+◌, [], ◌∷◌, ◌++◌, get_or, drop, sym, ap, ◌∙◌}
use Rattle.std.proofs.lemmas.List.{at_drop_more, at_drop_all, append_assoc, append-nil}
use Rattle.bb_shop.specs.declared.prepared_operation.PreparedOperation.{PreparedOperation}
use Rattle.bb_onemach.specs.Working.{prepared_visits}
use Rattle.bb_onemach.proofs.Prepared.{visit_of, prepared-nil, prepared-same, prepared-other}
use Rattle.bb_onemach.proofs.visit.add_visits.Goals as goal
use Rattle.bb_onemach.proofs.visit.add_visits.Goals.{then-operation-machine+in_ok-push, else-operation-machine}

abbrev no_operation : PreparedOperation
no_operation = record { operation = record { machine = 0; time = 0 }; tail = 0 }

pub loop-step-preserved : goal.loop-step-preserved
loop-step-preserved c =
    let m = c.args.machine in
    let j = c.args.job in
    let i = c.loop-step.step in
    let ops = c.args.operations.now in
    let p = get_or ops i no_operation in
    let rest = drop (i + 1) ops in
    let old = c.loop-step.row.items in
    let turn = at_drop_more (prepared_visits m j i) ops i no_operation c.loop-step-test.true in
    elim c.if-operation-machine.branch [
      | then-operation-machine+in_ok-push w ↦
          ap (λ v. v.items ++ prepared_visits m j (i + 1) rest) w.row-is
          ∙ ap (λ vs. vs ++ prepared_visits m j (i + 1) rest) w.in_ok-push.ensures.items
          ∙ append_assoc old (visit_of j i p ∷ []) (prepared_visits m j (i + 1) rest)
          ∙ ap (λ vs. old ++ vs) (sym (turn ∙ prepared-same m j i p rest w.if-operation-machine.true))
          ∙ c.loop-step.invariant
      | else-operation-machine w ↦
          ap (λ v. v.items ++ prepared_visits m j (i + 1) rest) w.row-is
          ∙ ap (λ vs. old ++ vs) (sym (turn ∙ prepared-other m j i p rest w.if-operation-machine.false)) ∙ c.loop-step.invariant
    ]

pub returns : goal.returns
returns c =
    let m = c.args.machine in
    let j = c.args.job in
    let i = c.loop-step.step in
    let end = at_drop_all (prepared_visits m j i) c.args.operations.now i c.loop-step-test.false ∙ prepared-nil m j i in
    sym (append-nil c.loop-step.row.items) ∙ ap (λ vs. c.loop-step.row.items ++ vs) (sym end) ∙ c.loop-step.invariant
