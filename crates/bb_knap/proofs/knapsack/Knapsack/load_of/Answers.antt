use Rattle.std.proofs.Common.{◌≡◌, ◌<◌, length, get_or, ap, ◌∙◌, arith}
use Rattle.inst_text.specs.Limits.{max_items}
use Rattle.bb_knap.specs.Plans.{item_at}
use Rattle.bb_knap.proofs.Totals.{value_of-drop, value_of-le}
use Rattle.bb_knap.proofs.Prefixes.{weight_of-drop, weight_of-numbers-le}
use Rattle.bb_knap.proofs.knapsack.Knapsack.load_of.Goals as goal

pub overflow_add-weight : goal.overflow_add-weight
overflow_add-weight c =
    let items = c.args.self.now.items in
    let choice = c.args.choice.now in
    let same : c.deref-number-items.result.now ≡ choice = c.deref-number-items.ensures.value ∙ c.choice.view_is in
    let inside : c.loop-number.number-index < length choice = rw same at c.loop-number-test.true in
    let so_far = rw c.items-items.ensures.items at c.loop-number.invariant.weight in
    let item : c.numbered_item-item.result ≡ item_at items (get_or choice c.loop-number.number-index 0) = rw (c.items-items.ensures.items, same) at c.numbered_item-item.ensures in
    omega (arith, so_far, c.from-weight.ensures, ap (λ i. i.weight) item, weight_of-drop items choice c.loop-number.number-index inside, weight_of-numbers-le items choice (rw c.choice.view_is at c.choice.invariant) c.items-items.ensures.within_limits.weights)

pub overflow_add-value : goal.overflow_add-value
overflow_add-value c =
    let items = c.args.self.now.items in
    let choice = c.args.choice.now in
    let same : c.deref-number-items.result.now ≡ choice = c.deref-number-items.ensures.value ∙ c.choice.view_is in
    let inside : c.loop-number.number-index < length choice = rw same at c.loop-number-test.true in
    let so_far = rw c.items-items.ensures.items at c.loop-number.invariant.value in
    let item : c.numbered_item-item.result ≡ item_at items (get_or choice c.loop-number.number-index 0) = rw (c.items-items.ensures.items, same) at c.numbered_item-item.ensures in
    omega (arith, so_far, ap (λ i. i.value) item, value_of-drop items choice c.loop-number.number-index inside, value_of-le items max_items choice (rw c.choice.view_is at c.choice.invariant), c.items-items.ensures.within_limits.values)

pub returns-clause-at_most : goal.returns-clause-at_most
returns-clause-at_most c =
    let items = c.args.self.now.items in
    let choice = c.args.choice.now in
    let so_far = rw c.items-items.ensures.items at c.loop-number.invariant.value in
    omega (arith, so_far, value_of-le items max_items choice (rw c.choice.view_is at c.choice.invariant))
