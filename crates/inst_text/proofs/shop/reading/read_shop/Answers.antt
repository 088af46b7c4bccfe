use Rattle.std.proofs.Common.{subst}
use Rattle.pq_io.specs.Reading.{Gives}
use Rattle.inst_text.specs.Shop.{IsShopText, shop_of}
use Rattle.inst_text.proofs.Readers.{given_is}
use Rattle.inst_text.proofs.ShopText.{shop_is_spelled, shop_is_read}
use Rattle.inst_text.proofs.shop.reading.read_shop.Goals as goal

pub returns-clause-spelled : goal.returns-clause-spelled
unfolding shop_of
returns-clause-spelled c = given_is (shop_of c.args.bytes.now) (IsShopText c.args.bytes.now) (shop_is_spelled c.args.bytes.now) c.read_whole.result c.read_whole.ensures

pub returns-clause-read : goal.returns-clause-read
unfolding shop_of
returns-clause-read c = λ s is. subst (λ r. Gives (λ j. j) c.read_whole.result r) (shop_is_read c.args.bytes.now s is) c.read_whole.ensures
