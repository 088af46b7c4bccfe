use Rattle.std.proofs.Common.{◌≡◌, ◌+◌, ◌-◌, ◌<◌, ◌≤◌, length, get_or, sym, ap, ◌∙◌, arith}
use Rattle.std.proofs.lemmas.Nat.{mul-lt}
use Rattle.bb_knap.specs.Plans.{item_at}
use Rattle.bb_knap.proofs.Prefixes.{weight_sums-rise, is_break, part-le, weight_of-take-le, value_of-take-mono, dantzig-at_end, dantzig-at_break}
use Rattle.bb_knap.proofs.dantzig.dantzig_from.Goals as goal

pub break_place-place-requires-clause-rising : goal.break_place-place-requires-clause-rising
break_place-place-requires-clause-rising c = weight_sums-rise c.args.items.now c.args.order.now c.args.weights.now c.requires.weights

pub overflow_add-limit : goal.overflow_add-limit
overflow_add-limit c =
    omega (arith, c.requires.weights.each c.args.from c.requires.from, weight_of-take-le c.args.items.now c.args.order.now c.args.from, c.requires.light, c.requires.room)

pub overflow_sub-whole : goal.overflow_sub-whole
overflow_sub-whole c =
    let place = c.break_place-place.result in
    let inside : place ≤ length c.args.order.now = omega (arith, c.break_place-place.ensures.inside, c.requires.weights.count) in
    omega (
      arith,
      c.requires.values.each c.args.from c.requires.from,
      c.requires.values.each place inside,
      value_of-take-mono c.args.items.now c.args.order.now c.args.from place c.break_place-place.ensures.from,
    )

pub returns-then-place-order : goal.returns-then-place-order
returns-then-place-order c =
    let place = c.break_place-place.result in
    let at_end : place ≡ length c.args.order.now = omega (arith, c.if-place-order.true) in
    let inside : place ≤ length c.args.order.now = omega (arith, at_end) in
    let from_weight = c.requires.weights.each c.args.from c.requires.from in
    let place_weight = c.requires.weights.each place inside in
    omega (
      arith,
      c.requires.values.each c.args.from c.requires.from,
      c.requires.values.each place inside,
      dantzig-at_end c.args.items.now c.args.room c.args.order.now c.args.from place c.break_place-place.ensures.from at_end (omega (arith, from_weight, place_weight, c.break_place-place.ensures.fits)),
    )

pub overflow_mul-result : goal.overflow_mul-result
overflow_mul-result c =
    let place = c.break_place-place.result in
    let inside : place < length c.args.order.now = omega (arith, c.break_place-place.ensures.inside, c.requires.weights.count, c.if-place-order.false) in
    let b = is_break c.args.items.now c.args.room c.args.order.now c.args.weights.now c.args.values.now c.args.from place c.requires.weights c.requires.values c.break_place-place.ensures.from inside c.break_place-place.ensures.fits c.break_place-place.ensures.breaks in
    let weight : c.from-weight.result ≡ (item_at c.args.items.now (get_or c.args.order.now place 0)).weight = c.from-weight.ensures ∙ ap (λ i. i.weight) c.numbered_item-item.ensures in
    let value : c.from-value.result ≡ (item_at c.args.items.now (get_or c.args.order.now place 0)).value = c.from-value.ensures ∙ ap (λ i. i.value) c.numbered_item-item.ensures in
    let left : get_or c.args.weights.now c.args.from 0 + c.args.room - get_or c.args.weights.now place 0 < c.from-weight.result =
    omega (arith, b.from_weight, b.place_weight, b.next_weight, b.fits, b.breaks, weight) in
    let light : c.from-weight.result < 4294967296 = omega (arith, c.from-weight.ensures) in
    let below : c.from-value.result < 4294967296 = omega (arith, c.from-value.ensures) in
    omega (arith, mul-lt (get_or c.args.weights.now c.args.from 0 + c.args.room - get_or c.args.weights.now place 0) c.from-value.result 4294967296 4294967296 (omega (arith, left, light)) below)

pub nonzero_div-result : goal.nonzero_div-result
nonzero_div-result c =
    let place = c.break_place-place.result in
    let inside : place < length c.args.order.now = omega (arith, c.break_place-place.ensures.inside, c.requires.weights.count, c.if-place-order.false) in
    let b = is_break c.args.items.now c.args.room c.args.order.now c.args.weights.now c.args.values.now c.args.from place c.requires.weights c.requires.values c.break_place-place.ensures.from inside c.break_place-place.ensures.fits c.break_place-place.ensures.breaks in
    let weight : c.from-weight.result ≡ (item_at c.args.items.now (get_or c.args.order.now place 0)).weight = c.from-weight.ensures ∙ ap (λ i. i.weight) c.numbered_item-item.ensures in
    let value : c.from-value.result ≡ (item_at c.args.items.now (get_or c.args.order.now place 0)).value = c.from-value.ensures ∙ ap (λ i. i.value) c.numbered_item-item.ensures in
    let left : get_or c.args.weights.now c.args.from 0 + c.args.room - get_or c.args.weights.now place 0 < c.from-weight.result =
    omega (arith, b.from_weight, b.place_weight, b.next_weight, b.fits, b.breaks, weight) in
    omega (arith, left)

pub overflow_cast-result : goal.overflow_cast-result
overflow_cast-result c =
    let place = c.break_place-place.result in
    let inside : place < length c.args.order.now = omega (arith, c.break_place-place.ensures.inside, c.requires.weights.count, c.if-place-order.false) in
    let b = is_break c.args.items.now c.args.room c.args.order.now c.args.weights.now c.args.values.now c.args.from place c.requires.weights c.requires.values c.break_place-place.ensures.from inside c.break_place-place.ensures.fits c.break_place-place.ensures.breaks in
    let weight : c.from-weight.result ≡ (item_at c.args.items.now (get_or c.args.order.now place 0)).weight = c.from-weight.ensures ∙ ap (λ i. i.weight) c.numbered_item-item.ensures in
    let value : c.from-value.result ≡ (item_at c.args.items.now (get_or c.args.order.now place 0)).value = c.from-value.ensures ∙ ap (λ i. i.value) c.numbered_item-item.ensures in
    let left : get_or c.args.weights.now c.args.from 0 + c.args.room - get_or c.args.weights.now place 0 < c.from-weight.result =
    omega (arith, b.from_weight, b.place_weight, b.next_weight, b.fits, b.breaks, weight) in
    omega (arith, part-le (get_or c.args.weights.now c.args.from 0 + c.args.room - get_or c.args.weights.now place 0) c.from-value.result c.from-weight.result left, b.next_value, c.requires.small, value)

pub overflow_add-result : goal.overflow_add-result
overflow_add-result c =
    let place = c.break_place-place.result in
    let inside : place < length c.args.order.now = omega (arith, c.break_place-place.ensures.inside, c.requires.weights.count, c.if-place-order.false) in
    let b = is_break c.args.items.now c.args.room c.args.order.now c.args.weights.now c.args.values.now c.args.from place c.requires.weights c.requires.values c.break_place-place.ensures.from inside c.break_place-place.ensures.fits c.break_place-place.ensures.breaks in
    let weight : c.from-weight.result ≡ (item_at c.args.items.now (get_or c.args.order.now place 0)).weight = c.from-weight.ensures ∙ ap (λ i. i.weight) c.numbered_item-item.ensures in
    let value : c.from-value.result ≡ (item_at c.args.items.now (get_or c.args.order.now place 0)).value = c.from-value.ensures ∙ ap (λ i. i.value) c.numbered_item-item.ensures in
    let left : get_or c.args.weights.now c.args.from 0 + c.args.room - get_or c.args.weights.now place 0 < c.from-weight.result =
    omega (arith, b.from_weight, b.place_weight, b.next_weight, b.fits, b.breaks, weight) in
    omega (arith, part-le (get_or c.args.weights.now c.args.from 0 + c.args.room - get_or c.args.weights.now place 0) c.from-value.result c.from-weight.result left, b.place_value, b.next_value, c.requires.small, value)

pub returns : goal.returns
returns c =
    let place = c.break_place-place.result in
    let inside : place < length c.args.order.now = omega (arith, c.break_place-place.ensures.inside, c.requires.weights.count, c.if-place-order.false) in
    let b = is_break c.args.items.now c.args.room c.args.order.now c.args.weights.now c.args.values.now c.args.from place c.requires.weights c.requires.values c.break_place-place.ensures.from inside c.break_place-place.ensures.fits c.break_place-place.ensures.breaks in
    let weight : c.from-weight.result ≡ (item_at c.args.items.now (get_or c.args.order.now place 0)).weight = c.from-weight.ensures ∙ ap (λ i. i.weight) c.numbered_item-item.ensures in
    let value : c.from-value.result ≡ (item_at c.args.items.now (get_or c.args.order.now place 0)).value = c.from-value.ensures ∙ ap (λ i. i.value) c.numbered_item-item.ensures in
    let left : get_or c.args.weights.now c.args.from 0 + c.args.room - get_or c.args.weights.now place 0 < c.from-weight.result =
    omega (arith, b.from_weight, b.place_weight, b.next_weight, b.fits, b.breaks, weight) in
    let law = dantzig-at_break c.args.items.now c.args.room c.args.order.now c.args.from place c.break_place-place.ensures.from inside b.fits b.breaks in
    rw (b.from_weight, b.place_weight, b.from_value, b.place_value, value, weight) (sym law)
