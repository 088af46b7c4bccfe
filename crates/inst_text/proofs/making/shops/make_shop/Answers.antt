use Rattle.std.proofs.Common.{◌+◌, ◌*◌, sym, ◌∙◌, arith}
use Rattle.std.proofs.lemmas.List.{map-append}
use Rattle.inst_text.specs.Generator.{made_row}
use Rattle.inst_text.proofs.Made.{all_made, one_more, next_from, shop_fits}
use Rattle.inst_text.proofs.making.shops.make_shop.Goals as goal

pub loop-preserved : goal.loop-preserved
loop-preserved c =
    let made = c.in_ok-next_row.ensures.row c.args.seed (c.loop.counter * (c.args.size + 1)) c.loop.invariant.state in
    record {
      state = made.1 ∙ next_from c.args.seed c.loop.counter (c.args.size + 1);
      rows =
          rw (c.in_ok-push.ensures.items, map-append, c.loop.invariant.rows, made.0)
          (sym (one_more (λ j. made_row c.args.seed c.args.size (j * (c.args.size + 1))) c.loop.counter));
    }

pub invariant_of-result : goal.invariant_of-result
invariant_of-result c =
    let all = all_made c.loop.counter c.args.size (omega arith) (omega arith) in
    rw (c.loop.invariant.rows, all) (shop_fits c.args.seed c.args.size c.requires.some c.requires.few)
