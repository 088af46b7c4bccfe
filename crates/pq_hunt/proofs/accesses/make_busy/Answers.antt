use Rattle.std.proofs.Common.{ℕ, sym, ap, ◌∙◌, subst, arith}
use Rattle.atomic_table.specs.Table.{step, Allows}
use mathlib.Core.Option.{none}
use Rattle.pq_seats.specs.Rules.{Holds}
use Rattle.pq_hunt.specs.Rules.{hunt_rule}
use Rattle.pq_hunt.specs.Steps as steps
use Rattle.std.proofs.Common.{refl}
use Rattle.pq_hunt.proofs.Calls.Sitting.{sits_on}
use Rattle.pq_hunt.specs.Words.{Means}
use Rattle.pq_hunt.specs.declared.nodes.Node.TheVariants.{Busy}
use Rattle.pq_hunt.proofs.Allowing.Moves.{may_leaf}
use Rattle.pq_hunt.proofs.accesses.make_busy.Goals as goal
use Rattle.pq_nodes.specs.Layout as node_layout

pub store-requires : goal.store-requires
store-requires c =
    let k = c.args.table.now.table.shared.key in let me = c.args.pass.now.seat.me in let id = c.args.pass.now.seat.id in let own = c.requires.own in let slots = c.args.table.now.table.shared.table_id.slots in
    let size = c.args.table.now.sized.0 in let words = c.requires.table.words in let seated = own.seated.0 in let named = own.named in
    let r = c.requires.leaf in let e = c.requires.word in
    (own.table, omega (arith, c.word_of.ensures, c.requires.node.1), subst (λ (z : ℕ). Allows (Holds hunt_rule k) slots id me z (λ _. c.args.word) (λ _. steps.leafs (step slots z c.args.word 0 none) me c.args.word)) (ap node_layout.word_of r.is ∙ sym c.word_of.ensures) (may_leaf k slots id me r.guard r.others c.args.word e.0 r.guards r.locked (omega arith) r.idle r.quiet c.requires.few (r.is ∙ r.next) (omega (arith, r.is, c.requires.node.1)) (subst (λ (z : ℕ). Means (Busy z e.0) c.args.word) own.named e.1)))

pub returns-clause-stays : goal.returns-clause-stays
returns-clause-stays c =
    let z = c.args.table.now.table.shared.table_id in let k = c.args.table.now.table.shared.key in let old = c.args.pass.now.seat in let new = c.store.new.seat in
    let e = c.requires.word in let n = c.args.pass.now.number in let lanes = c.args.pass.now.lanes in
    record {
      own = sits_on z k n lanes old new (steps.leafed old.me.0.post c.args.word e.0) c.requires.own c.store.ensures.0 refl
          (c.store.ensures.2 e.0 (subst (λ (m : ℕ). Means (Busy m e.0) c.args.word) c.requires.own.named e.1));
      same = (refl, refl, c.store.ensures.1);
    }
