use Rattle.std.proofs.Common.{◌≡◌, sym, ap, subst, ◌∙◌}
use Rattle.std.specs.Prelude.{All}
use Rattle.bb_shop.specs.Working.{IsLeftAt, left_in}
use Rattle.bb_shop.specs.TreeLawsHold.Remaining.{left_in-are_left}
use Rattle.bb_shop.proofs.shop.Shop.jobs_left.Goals as goal

pub returns-clause-left : goal.returns-clause-left
returns-clause-left c =
    let s = c.args.self.now in
    let node = c.args.node.now in
    let jobs : c.left.result.items ≡ left_in s.machines node.steps =
    c.left.ensures ∙ ap (λ m. left_in m c.steps.result.now) c.machine_count.ensures.count ∙ ap (left_in s.machines) c.steps.ensures in
    subst (All (IsLeftAt s node)) (sym jobs) (left_in-are_left s node)
