use Rattle.std.proofs.Common.{ℕ, sym, subst, arith}
use Rattle.atomic_table.specs.Table.{step, Allows}
use mathlib.Core.Option.{none}
use Rattle.pq_seats.specs.Rules.{Holds}
use Rattle.pq_nodes.specs.Steps as steps
use Rattle.pq_nodes.proofs.Allowing.{may_raise_third}
use Rattle.pq_nodes.proofs.accesses.raise_third.Goals as goal

pub store-requires : goal.store-requires
store-requires g c =
    let R = g.R.SeatRule.rule in let P = g.R.NodeRule.nodes in let laws = g.met.R.NodeRule.node_laws in let lawful = g.R.SeatRule.lawful in
    let k = c.args.table.now.table.shared.key in let me = c.args.pass.now.seat.me in let id = c.args.pass.now.seat.id in let own = c.requires.own in
    let slots = c.args.table.now.table.shared.table_id.slots in let size = c.args.table.now.sized.0 in let within = c.requires.node.3 in
    let seated = own.seated.0 in let named = own.named in (
      own.table,
      omega (arith, c.word_of.ensures),
      subst (λ (z : ℕ). Allows (Holds R k) slots id me z (λ _. c.args.word) (λ _. steps.raises_third P (step slots z c.args.word 0 none) me c.args.word)) (sym c.word_of.ensures)
          (may_raise_third R P laws k lawful slots id me c.args.hole c.args.word (λ z. omega arith) c.requires.raise),
    )
