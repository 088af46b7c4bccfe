use Rattle.std.proofs.Common.{length, ap, ◌∙◌, arith}
use Rattle.std.proofs.lemmas.List.{take_all}
use Rattle.inst_text.specs.Knapsack.{total_value}
use Rattle.bb_knap.specs.Plans.{value_of}
use Rattle.bb_knap.proofs.Prefixes.{value_of-order}
use Rattle.bb_knap.proofs.knapsack.Knapsack.total_value.Goals as goal

pub returns : goal.returns
returns c =
    let i = c.self.inside.items in
    let order = c.self.inside.order.items in
    rw (c.as_slice-order.ensures.value, c.as_slice-values.ensures.value)
    (c.self.invariant.value_sums.each (length order) (omega arith)
    ∙ ap (value_of i.items) (take_all (length order) order (omega arith) ∙ c.self.invariant.order_is)
    ∙ value_of-order i.items ∙ ap (λ j. total_value j.items) c.self.view_is)
