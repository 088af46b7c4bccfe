use Rattle.std.proofs.Common.{◌≡◌, ◌+◌, ◌*◌, map}
use Rattle.inst_text.specs.Generator.{state_after, made_row, each_below}
use Rattle.inst_text.proofs.making.shops.make_shop.Given as goal

abbrev pub invariant-loop : goal.invariant-loop
invariant-loop l = record {
  state : l.generator.state ≡ state_after l.seed (l.counter * (l.size + 1));
  rows : map (λ row. row.items) l.rows.items ≡ each_below l.counter (λ j. made_row l.seed l.size (j * (l.size + 1)));
}
