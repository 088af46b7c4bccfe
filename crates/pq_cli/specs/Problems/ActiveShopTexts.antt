-- The texts of a job shop that branches by active schedules: those of a shop, with a root's bound of its own.
use Rattle.std.specs.Prelude.{List, ℕ}
use Rattle.inst_text.specs.Shop.{JobShop}
use Rattle.bb_onemach.specs.Bounds.{root_bound}
use Rattle.pq_cli.specs.Using.{Texts}
use Rattle.pq_cli.specs.Problems.ShopTexts as shops

abbrev pub texts : Texts JobShop (List (List ℕ))
texts = record shops.texts { root_bound = root_bound }
