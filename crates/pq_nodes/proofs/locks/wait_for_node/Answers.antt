use Rattle.std.proofs.Common.{ℕ, sym, subst, arith}
use Rattle.pq_seats.specs.Allowed.{MayTake}
use Rattle.pq_nodes.proofs.Allowing.{may_take_node, took_node}
use Rattle.pq_nodes.proofs.locks.wait_for_node.Goals as goal

pub lock-requires-clause-allowed : goal.lock-requires-clause-allowed
lock-requires-clause-allowed g c = let own = c.requires.own in let seated = own.seated.0 in let named = own.named in
    let R = g.R.SeatRule.rule in let P = g.R.NodeRule.nodes in let laws = g.met.R.NodeRule.node_laws in
    let k = c.args.table.now.table.shared.key in let id = c.args.pass.now.seat.id in let v = c.args.pass.now.seat.me.0 in
    subst (λ (z : ℕ). MayTake R k id v z) (sym c.lock_of.ensures)
    (may_take_node R P laws k id v c.args.node (omega arith) c.requires.node.0 c.requires.node.1)

pub returns-clause-took : goal.returns-clause-took
returns-clause-took g c = took_node g.R.SeatRule.rule g.R.NodeRule.nodes g.met.R.NodeRule.node_laws c.args.table.now.table.shared.key
    c.args.pass.now.seat.me.0 c.lock.new.pass.seat.me.0 c.args.node c.lock_of.result c.lock_of.ensures c.lock.ensures.took
