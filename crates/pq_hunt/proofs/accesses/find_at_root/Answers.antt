use Rattle.std.proofs.Common.{ℕ, sym, ap, ◌∙◌, subst, arith}
use Rattle.atomic_table.specs.Table.{step, Allows}
use mathlib.Core.Option.{none}
use Rattle.pq_seats.specs.Rules.{Holds}
use Rattle.pq_hunt.specs.Rules.{hunt_rule}
use Rattle.pq_hunt.specs.Steps as steps
use native.Mathlib.Decide.{ℕ_discrete}
use mathlib.Core.Logic.{dite}
use Rattle.std.proofs.Common.{refl}
use Rattle.pq_hunt.proofs.Calls.Sitting.{sits_on, sits_still}
use Rattle.pq_hunt.proofs.Allowing.Moves.{may_find_at_root}
use Rattle.pq_hunt.proofs.accesses.find_at_root.Goals as goal
use Rattle.pq_nodes.specs.Layout as node_layout

pub load-requires : goal.load-requires
load-requires c =
    let k = c.args.table.now.table.shared.key in let me = c.args.pass.now.seat.me in let id = c.args.pass.now.seat.id in let own = c.requires.own in let slots = c.args.table.now.table.shared.table_id.slots in
    let size = c.args.table.now.sized.0 in let words = c.requires.table.words in let seated = own.seated.0 in let named = own.named in
    let r = c.requires.find.0 in
    (own.table, omega (arith, c.word_of.ensures, c.requires.table.some_nodes), subst (λ (z : ℕ). Allows (Holds hunt_rule k) slots id me z (λ n. n) (steps.finds_at_root (step slots z 0 0 none) me)) (ap node_layout.word_of r.is ∙ sym c.word_of.ensures) (may_find_at_root k slots id me r.guard r.entry r.has r.means r.is r.place r.climbing (omega arith) c.requires.find.1 r.flies))

pub returns-clause-stays : goal.returns-clause-stays
returns-clause-stays c =
    let z = c.args.table.now.table.shared.table_id in let k = c.args.table.now.table.shared.key in let old = c.args.pass.now.seat in let new = c.load.new.seat in
    let r = c.requires.find.0 in let n = c.args.pass.now.number in let lanes = c.args.pass.now.lanes in
    let then = c.load.ensures.2.1 r.entry r.flies in
    record {
      own = dite (ℕ_discrete c.load.result (steps.busy_number old.me.0.post.number r.entry))
          (λ mine. sits_still z k n lanes old new c.requires.own c.load.ensures.0 (then.0 mine))
          (λ other. sits_on z k n lanes old new (steps.missing old.me.0.post) c.requires.own c.load.ensures.0 refl (then.1 other));
      same = (refl, refl, c.load.ensures.1);
    }
