use Rattle.std.proofs.Common.{◌≡◌, ◌<◌, map, take}
use Rattle.inst_text.specs.Shop.{IsJobShop}
use Rattle.bb_shop.specs.Working.{child_of}
use Rattle.bb_shop.proofs.shop.Shop.branch.Given as goal

abbrev pub invariant-loop-job : goal.invariant-loop-job
invariant-loop-job l = record {
  children : l.children.items ≡ map (child_of l.self l.node) (take l.job-index l.jobs);
  within_limits : 0 < l.job-index → IsJobShop l.self;
}
