use Rattle.std.proofs.Common.{◌≡◌, ◌+◌, take, get_or, ap, ◌∙◌, arith}
use Rattle.inst_text.specs.Knapsack.{IsInstance}
use Rattle.bb_knap.specs.Plans.{item_at, weight_of, value_of}
use Rattle.bb_knap.proofs.Prefixes.{sums-more, weight_of-take_more, value_of-take_more, weight_of-take-le, value_of-take-le, weight_of-order-le, value_of-order}
use Rattle.bb_knap.proofs.sums.sums_over.Goals as goal

pub overflow_add-weight : goal.overflow_add-weight
overflow_add-weight c =
    let i = c.args.items.now in
    let order = c.args.order.now in
    let k = c.loop-number.number-index in
    let limits : IsInstance i = rw c.items.view_is at c.items.invariant in
    let item : c.numbered_item-item.result ≡ item_at i.items (get_or order k 0) =
    c.numbered_item-item.ensures ∙ ap (λ xs. item_at xs (get_or order k 0)) (c.as_slice.ensures.value ∙ ap (λ j. j.items) c.items.view_is) in
    omega (
      arith,
      c.loop-number.invariant.weights.last,
      weight_of-take_more i.items order k c.loop-number-test.true,
      weight_of-take-le i.items order (k + 1),
      ap (weight_of i.items) c.requires,
      weight_of-order-le i limits,
      c.from-weight.ensures,
      ap (λ j. j.weight) item,
    )

pub overflow_add-value : goal.overflow_add-value
overflow_add-value c =
    let i = c.args.items.now in
    let order = c.args.order.now in
    let k = c.loop-number.number-index in
    let limits : IsInstance i = rw c.items.view_is at c.items.invariant in
    let item : c.numbered_item-item.result ≡ item_at i.items (get_or order k 0) =
    c.numbered_item-item.ensures ∙ ap (λ xs. item_at xs (get_or order k 0)) (c.as_slice.ensures.value ∙ ap (λ j. j.items) c.items.view_is) in
    omega (
      arith,
      c.loop-number.invariant.values.last,
      value_of-take_more i.items order k c.loop-number-test.true,
      value_of-take-le i.items order (k + 1),
      ap (value_of i.items) c.requires,
      value_of-order i.items,
      limits.values,
      ap (λ j. j.value) item,
    )

pub loop-number-preserved : goal.loop-number-preserved
loop-number-preserved c =
    let i = c.args.items.now in
    let order = c.args.order.now in
    let k = c.loop-number.number-index in
    let w = c.loop-number.weight in
    let v = c.loop-number.value in
    let item : c.numbered_item-item.result ≡ item_at i.items (get_or order k 0) =
    c.numbered_item-item.ensures ∙ ap (λ xs. item_at xs (get_or order k 0)) (c.as_slice.ensures.value ∙ ap (λ j. j.items) c.items.view_is) in
    let weight : w + c.from-weight.result ≡ weight_of i.items (take (k + 1) order) =
    omega (arith, c.loop-number.invariant.weights.last, weight_of-take_more i.items order k c.loop-number-test.true, c.from-weight.ensures, ap (λ j. j.weight) item) in
    let value : v + c.numbered_item-item.result.value ≡ value_of i.items (take (k + 1) order) =
    omega (arith, c.loop-number.invariant.values.last, value_of-take_more i.items order k c.loop-number-test.true, ap (λ j. j.value) item) in
    record {
      weights = sums-more (weight_of i.items) order k w (w + c.from-weight.result) c.loop-number.weights.items c.push.new.self.items
          c.loop-number.invariant.weights weight c.in_ok-push.ensures.items;
      values = sums-more (value_of i.items) order k v (v + c.numbered_item-item.result.value) c.loop-number.values.items c.push-in-loop-number.new.self.items
          c.loop-number.invariant.values value c.in_ok-push-2.ensures.items;
    }
