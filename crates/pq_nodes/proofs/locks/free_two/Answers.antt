use Rattle.std.proofs.Common.{List, sym, subst, arith}
use Rattle.std.specs.Prelude.{Contains}
use Rattle.pq_seats.specs.declared.views.Post.{Post}
use Rattle.pq_seats.proofs.Lists.{has_less}
use Rattle.pq_nodes.specs.declared.guards.Guard.{Guard}
use Rattle.pq_nodes.specs.Layout.{lock_of}
use Rattle.pq_nodes.specs.Views.{without_guard}
use Rattle.pq_nodes.proofs.GuardLists.{has_without_guard}
use Rattle.pq_nodes.proofs.locks.free_two.Goals as goal

pub free_node-requires-2-clause-held : goal.free_node-requires-2-clause-held
free_node-requires-2-clause-held g c = let h = c.requires.held in let f = c.free_node.ensures.freed in
    subst (λ (p : Post _). Contains p.locks (lock_of c.args.first)) (sym f.post)
    (has_less (lock_of c.args.second) c.args.pass.now.seat.me.0.post.locks (lock_of c.args.first) h.first_held (λ e. h.differ (omega arith)))

pub free_node-requires-2-clause-counted : goal.free_node-requires-2-clause-counted
free_node-requires-2-clause-counted g c = let h = c.requires.held in let f = c.free_node.ensures.freed in let r = h.first_freeable in
    let P = g.R.NodeRule.nodes in let laws = g.met.R.NodeRule.node_laws in let old = c.args.pass.now.seat.me.0.post in
    let rest : List (Guard _) = without_guard (lock_of c.args.second) (P.guards old.own) in record {
      guard = r.guard;
      has = subst (λ (p : Post _). Contains (P.guards p.own) r.guard) (sym f.post)
          (subst (λ (z : List (Guard _)). Contains z r.guard) (sym (laws.reads old.own rest))
          (has_without_guard (lock_of c.args.second) (P.guards old.own) r.guard r.has (λ e. h.differ (let is = r.is in omega arith))));
      is = r.is;
      means = r.means;
      allowed = subst (λ (p : Post _). P.may_free p c.args.first) (sym f.post) (laws.may_free_on old c.args.first c.args.second r.allowed);
    }
