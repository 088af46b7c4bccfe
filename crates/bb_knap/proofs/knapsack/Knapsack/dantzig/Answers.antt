use Rattle.std.proofs.Common.{◌≡◌, length, ap, ◌∙◌, arith}
use Rattle.bb_knap.specs.Order.{order_of}
use Rattle.bb_knap.specs.TreeLawsHold.InOrder.{length-order_below}
use Rattle.bb_knap.proofs.Prefixes.{weight_of-order-le, value_of-order}
use Rattle.bb_knap.proofs.knapsack.Knapsack.dantzig.Goals as goal

pub dantzig_from-requires-clause-light : goal.dantzig_from-requires-clause-light
dantzig_from-requires-clause-light c =
    let i = c.args.self.now in
    let order : c.as_slice-order.result.now ≡ order_of i.items = c.as_slice-order.ensures.value ∙ c.self.invariant.order_is ∙ ap (λ j. order_of j.items) c.self.view_is in
    rw (c.items-items.ensures.items, order) (weight_of-order-le i c.items-items.ensures.within_limits)

pub dantzig_from-requires-clause-small : goal.dantzig_from-requires-clause-small
dantzig_from-requires-clause-small c =
    let i = c.args.self.now in
    let order : c.as_slice-order.result.now ≡ order_of i.items = c.as_slice-order.ensures.value ∙ c.self.invariant.order_is ∙ ap (λ j. order_of j.items) c.self.view_is in
    rw (c.items-items.ensures.items, order) (omega (arith, value_of-order i.items, c.items-items.ensures.within_limits.values))

pub dantzig_from-requires-clause-from : goal.dantzig_from-requires-clause-from
dantzig_from-requires-clause-from c =
    let i = c.args.self.now in
    let order : c.as_slice-order.result.now ≡ order_of i.items = c.as_slice-order.ensures.value ∙ c.self.invariant.order_is ∙ ap (λ j. order_of j.items) c.self.view_is in
    rw order (omega (arith, c.requires.from, length-order_below i.items (length i.items)))
