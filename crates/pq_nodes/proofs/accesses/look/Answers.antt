use Rattle.std.proofs.Common.{ℕ, sym, subst, arith}
use Rattle.atomic_table.specs.Table.{step, Allows}
use mathlib.Core.Option.{none}
use Rattle.pq_seats.specs.Rules.{Holds}
use Rattle.pq_nodes.specs.Steps as steps
use Rattle.pq_nodes.proofs.Allowing.{may_look}
use Rattle.pq_nodes.proofs.accesses.look.Goals as goal

pub load-requires : goal.load-requires
load-requires g c =
    let R = g.R.SeatRule.rule in let P = g.R.NodeRule.nodes in let laws = g.met.R.NodeRule.node_laws in
    let k = c.args.table.now.table.shared.key in let me = c.args.pass.now.seat.me in let id = c.args.pass.now.seat.id in let own = c.requires.own in
    let slots = c.args.table.now.table.shared.table_id.slots in let size = c.args.table.now.sized.0 in let within = c.requires.node.3 in (
      own.table,
      omega (arith, c.word_of.ensures),
      subst (λ (z : ℕ). Allows (Holds R k) slots id me z (λ n. n) (steps.sees_word P (step slots z 0 0 none) me)) (sym c.word_of.ensures)
          (may_look R P laws k slots id me c.args.node own.empty),
    )
