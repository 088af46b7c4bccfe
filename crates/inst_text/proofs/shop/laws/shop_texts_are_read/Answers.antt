use Rattle.inst_text.proofs.ShopText.{shop_is_spelled, shop_is_read}
use Rattle.inst_text.proofs.shop.laws.shop_texts_are_read.Goals as goal

pub returns : goal.returns
returns c = λ bytes s. (shop_is_spelled bytes s, shop_is_read bytes s)
