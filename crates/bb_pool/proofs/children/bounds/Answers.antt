use Rattle.std.proofs.Common.{rules, arith, ◌≡◌, ◌+◌, ◌<◌, ℕ, Bool, length, take, sym, ap, ◌∙◌, subst}
use Rattle.std.specs.Prelude.{All}
use Rattle.std.proofs.lemmas.List.Elements.{All-push}
use Rattle.pq_words.specs.Limits.{key_limit}
use Rattle.bb_pool.specs.Costs.{is_better}
use Rattle.bb_pool.specs.Children.{AreBounds, better_keys}
use Rattle.bb_pool.proofs.Bounds.{one_if, byte_is, better_push, bounds_more, one_at_most}
use Rattle.bb_pool.proofs.children.bounds.Goals as goal

pub loop-node-preserved : goal.loop-node-preserved
loop-node-preserved g c = let m = g.P.Problem.meaning c.args.problem.now in
    let keys = c.loop-node.keys.items in let key = c.bound-key.result in
    let items = c.in_ok-push.ensures.items in
    let tested : c.from-kept.result ≡ one_if (is_better key c.args.best) = c.from-kept.ensures ∙ byte_is c.is_below.result ∙ ap (λ (b : Bool). one_if b) c.is_below.ensures in
    let more = better_push c.args.best keys key in
    let longer = ap (λ l. length (better_keys c.args.best l)) items in
    let one = one_at_most (is_better key c.args.best) in
    let before = c.loop-node.invariant.kept in
    let few = c.loop-node.invariant.few in
    record {
      bounds = subst (AreBounds m (take (c.loop-node.node-index + 1) c.args.nodes.now)) (sym items)
          (bounds_more m c.args.nodes.now c.loop-node.node-index c.node-item.result keys key (search rules) c.loop-node.invariant.bounds
          (λ name st. c.bound-key.ensures.exact name (subst (λ n. m.stands n name) (sym c.node-item.is) st)));
      small = subst (All (λ (k : ℕ). k < key_limit)) (sym items) (All-push (λ (k : ℕ). k < key_limit) keys key c.loop-node.invariant.small c.bound-key.ensures.small);
      kept = omega arith;
      few = omega arith;
    }
