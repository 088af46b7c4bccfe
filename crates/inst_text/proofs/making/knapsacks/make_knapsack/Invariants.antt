use Rattle.std.proofs.Common.{◌≡◌, ◌*◌, ◌≤◌, sum_by}
use Rattle.inst_text.specs.declared.knapsack.Item.{Item}
use Rattle.inst_text.specs.Generator.{state_after, made_items}
use Rattle.inst_text.proofs.making.knapsacks.make_knapsack.Given as goal

abbrev pub invariant-loop : goal.invariant-loop
invariant-loop l = record {
  state : l.generator.state ≡ state_after l.seed (2 * l.counter);
  items : l.items.items ≡ made_items l.seed l.counter;
  weight : l.weight ≡ sum_by (λ (i : Item). i.weight) (made_items l.seed l.counter);
  light : l.weight ≤ 100 * l.counter;
}
