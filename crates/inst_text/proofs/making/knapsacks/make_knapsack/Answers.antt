use Rattle.std.proofs.Common.{◌≡◌, ◌+◌, ◌*◌, suc, refl, sym, ap, sum_by, ◌∙◌, arith}
use Rattle.inst_text.specs.declared.knapsack.Item.{Item}
use Rattle.inst_text.specs.Generator.{next_state, state_after, item_from, made_items}
use Rattle.inst_text.proofs.Made.{all_made, one_more, steps_on, weight_more, knapsack_fits}
use Rattle.inst_text.proofs.making.knapsacks.make_knapsack.Goals as goal

pub overflow_add-weight : goal.overflow_add-weight
overflow_add-weight c =
    let few = c.requires in
    record { fits = omega (arith, c.loop.invariant.light, c.next_item-item.ensures.weight, c.from-weight.ensures, c.loop-test.true, few) }

pub loop-init : goal.loop-init
loop-init c = record {
  state = c.new-generator.ensures;
  items = c.in_ok-items.ensures.items;
  weight = refl;
  light = omega arith;
}

pub loop-preserved : goal.loop-preserved
loop-preserved c =
    let seed = c.args.seed in
    let n = c.loop.counter in
    let item : c.next_item-item.result ≡ item_from (state_after seed (2 * n)) = c.next_item-item.ensures.item ∙ ap item_from c.loop.invariant.state in
    let weight : c.next_item-item.result.weight ≡ (item_from (state_after seed (2 * n))).weight = ap (λ (i : Item). i.weight) item in
    record {
      state =
          c.next_item-item.ensures.state ∙ ap (λ s. next_state (next_state s)) c.loop.invariant.state
          ∙ steps_on seed (suc (suc (2 * n))) (2 * (n + 1)) (omega arith);
      items =
          rw (c.in_ok-push.ensures.items, item, c.loop.invariant.items)
          (sym (one_more (λ i. item_from (state_after seed (2 * i))) n));
      weight = omega (arith, weight, weight_more seed n, c.loop.invariant.weight, c.from-weight.ensures);
      light = omega (arith, c.loop.invariant.light, c.next_item-item.ensures.weight, c.from-weight.ensures);
    }

pub invariant_of-result : goal.invariant_of-result
invariant_of-result c =
    let all = all_made c.loop.counter c.args.size (omega arith) (omega arith) in
    let items = c.loop.invariant.items ∙ ap (made_items c.args.seed) all in
    let weight = c.loop.invariant.weight ∙ ap (λ k. sum_by (λ (i : Item). i.weight) (made_items c.args.seed k)) all in
    rw (items, weight) (knapsack_fits c.args.seed c.args.size c.requires)

pub returns : goal.returns
returns c =
    let all = all_made c.loop.counter c.args.size (omega arith) (omega arith) in
    let items = c.loop.invariant.items ∙ ap (made_items c.args.seed) all in
    let weight = c.loop.invariant.weight ∙ ap (λ k. sum_by (λ (i : Item). i.weight) (made_items c.args.seed k)) all in
    rw (items, weight) refl
