-- The laws of the tree of dispatch orders, all together.
use Rattle.inst_text.specs.Shop.{JobShop, IsJobShop}
use Rattle.bb_problem.specs.Meaning.{IsLawful}
use Rattle.bb_shop.specs.Branching.{meaning_of}
use Rattle.bb_shop.specs.TreeLawsHold.Bounded.{bounded}
use Rattle.bb_shop.specs.TreeLawsHold.Least.{attained, least_of_all}
use Rattle.bb_shop.specs.TreeLawsHold.Reaching.{reached}
use Rattle.bb_shop.specs.TreeLawsHold.Branches.{passed_on, told_apart, ends, counted}

pub lawful : (s : JobShop) → IsJobShop s → IsLawful (meaning_of s)
lawful s shop = record {
  reached = λ plan feasible. reached s plan shop feasible;
  bounded = λ name v r. bounded s name v shop r;
  passed_on = λ name v r some. passed_on s name v shop r some;
  told_apart = λ name. told_apart s name shop;
  ends = λ name le. ends s name shop le;
  attained = attained s shop;
  least_of_all = λ plan feasible. least_of_all s plan shop feasible;
  counted = counted s shop;
}
