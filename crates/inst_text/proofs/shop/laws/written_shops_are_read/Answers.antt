use Rattle.inst_text.proofs.WrittenShop.{shop_text_is_read}
use Rattle.inst_text.proofs.shop.laws.written_shops_are_read.Goals as goal

pub returns : goal.returns
returns c = shop_text_is_read
