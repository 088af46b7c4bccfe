use Rattle.std.proofs.Common.{ℕ, sym, subst}
use Rattle.pq_seats.specs.Allowed.{MayFree}
use Rattle.pq_nodes.proofs.Allowing.{may_free_node}
use Rattle.pq_nodes.proofs.locks.free_node.Goals as goal

pub unlock-requires-clause-allowed : goal.unlock-requires-clause-allowed
unlock-requires-clause-allowed g c =
    let R = g.R.SeatRule.rule in let P = g.R.NodeRule.nodes in let laws = g.met.R.NodeRule.node_laws in
    let k = c.args.table.now.table.shared.key in let id = c.args.pass.now.seat.id in let v = c.args.pass.now.seat.me.0 in
    subst (λ (z : ℕ). MayFree R k id v z) (sym c.lock_of.ensures) (may_free_node R P laws k id v c.args.node c.requires.counted)
