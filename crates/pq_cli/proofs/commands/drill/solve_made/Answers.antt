use Rattle.std.proofs.Common.{◌∙◌, ap, ℕ, List}
use Rattle.inst_text.specs.Knapsack.{Instance}
use Rattle.pq_cli.specs.Drilling.{greatest_value}
use Rattle.pq_cli.proofs.Drilled.{cheapest, worth_the_greatest}
use Rattle.pq_cli.proofs.commands.drill.solve_made.Goals as goal

pub returns-clause-value : goal.returns-clause-value
returns-clause-value g c =
    let i : Instance = c.in_ok-knapsack.knapsack in
    let choice : List ℕ = c.in_ok-choice.choice in
    let best = (c.best_is_cheapest.ensures i choice).1 (cheapest i choice c.in_ok-choice.ensures.0) in
    let most = c.greatest_value_is_best.ensures.greatest i choice best.feasible in
    c.value_of.ensures ∙ worth_the_greatest i choice best (c.greatest_value_is_best.ensures.attained i) most
    ∙ ap greatest_value c.in_ok-knapsack.ensures.made
