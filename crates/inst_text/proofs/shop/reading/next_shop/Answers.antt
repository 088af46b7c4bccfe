use Rattle.std.proofs.Common.{arith}
use Rattle.inst_text.proofs.ShopText.{machines_few, shop_fits}
use Rattle.inst_text.proofs.shop.reading.next_shop.Goals as goal

pub next_rows-requires : goal.next_rows-requires
next_rows-requires c = machines_few c.args.text.now _ c.in_ok-jobs.ensures

pub overflow_cast-result : goal.overflow_cast-result
overflow_cast-result c = let few = (machines_few c.args.text.now _ c.in_ok-jobs.ensures).1 in record { fits = omega (arith, few) }

pub invariant_of-result : goal.invariant_of-result
invariant_of-result c = shop_fits c.args.text.now _ _ c.in_ok-jobs.ensures c.in_ok-rows.ensures
