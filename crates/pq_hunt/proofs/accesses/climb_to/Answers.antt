use Rattle.std.proofs.Common.{ℕ, sym, ap, ◌∙◌, subst, arith}
use Rattle.atomic_table.specs.Table.{step, Allows}
use mathlib.Core.Option.{none}
use Rattle.pq_seats.specs.Rules.{Holds}
use Rattle.pq_hunt.specs.Rules.{hunt_rule}
use Rattle.pq_hunt.specs.Steps as steps
use Rattle.pq_hunt.proofs.Allowing.Moves.{may_climb}
use Rattle.pq_hunt.proofs.accesses.climb_to.Goals as goal
use Rattle.pq_nodes.specs.Layout as node_layout

pub store-requires : goal.store-requires
store-requires c =
    let k = c.args.table.now.table.shared.key in let me = c.args.pass.now.seat.me in let id = c.args.pass.now.seat.id in let own = c.requires.own in let slots = c.args.table.now.table.shared.table_id.slots in
    let size = c.args.table.now.sized.0 in let words = c.requires.table.words in let seated = own.seated.0 in let named = own.named in
    let r = c.requires.climb in
    (own.table, omega (arith, c.word_of.ensures, c.requires.node.1), subst (λ (z : ℕ). Allows (Holds hunt_rule k) slots id me z (λ _. c.args.word) (λ _. steps.climbs (step slots z c.args.word 0 none) me c.args.word)) (ap node_layout.word_of r.is ∙ sym c.word_of.ensures) (may_climb k slots id me r.above r.below r.others r.entry r.other c.args.word r.guards r.stored r.child r.available r.busy r.under (omega arith) r.climbing r.place))
