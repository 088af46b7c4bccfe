use Rattle.cli_words.specs.declared.command.Branching.{Branching}
use Rattle.cli_words.specs.declared.command.Branching.TheVariants.{Dispatch, Active}
use Rattle.cli_words.specs.declared.command.Kind.{Kind}
use Rattle.cli_words.specs.declared.command.Kind.TheVariants.{Knapsack, Shop}
use Rattle.pq_cli.proofs.laws.solutions_are_checked.Goals as goal

of_each : (P : Kind → Branching → Type 0) → ((b : Branching) → P Knapsack b) → P Shop Dispatch → P Shop Active →
    (kind : Kind) (branching : Branching) → P kind branching
of_each P choices dispatched active Knapsack branching = choices branching
of_each P choices dispatched active Shop Dispatch = dispatched
of_each P choices dispatched active Shop Active = active

pub returns : goal.returns
returns c = of_each _ c.solved_choices_are_checked.ensures c.solved_schedules_are_checked.ensures c.active_schedules_are_checked.ensures
