-- What the search of a drill comes to.
use Rattle.std.proofs.Common.{◌≡◌, ◌≤◌, ℕ, List, refl, Err, arith}
use Rattle.inst_text.specs.Knapsack.{Instance}
use Rattle.bb_problem.specs.Tree.{needed}
use Rattle.bb_knap.specs.Plans.{value_of, IsFeasible, IsBest, IsCheapest}
use Rattle.bb_knap.specs.Branching.{tree_of, least_cost, meaning_of}
use Rattle.pq_cli.specs.declared.refusal.Refusal.{Refusal}
use Rattle.pq_cli.specs.declared.refusal.Refusal.TheVariants as refusals
use Rattle.pq_cli.specs.CommandLimits.{drill_limits}
use Rattle.pq_cli.specs.Drilling.{drill_nodes, greatest_value}
use Rattle.pq_cli.specs.Using.{IsBestPlan}
use Rattle.pq_cli.specs.Work.{IsPlanned}

-- neither limit can stop it
pub refused_for_memory : (i : Instance) (workers : ℕ) (refusal : Refusal) → needed (tree_of i) (least_cost i) ≤ drill_nodes →
    IsPlanned (meaning_of i) (drill_limits workers) (Err refusal) → refusal ≡ refusals.NoMemory
refused_for_memory i workers (refusals.BadInput fault) small h = absurd h
refused_for_memory i workers (refusals.NodeLimit asked limit) small h = absurd (omega (arith, small, h.limit_is, h.over, h.within))
refused_for_memory i workers (refusals.Full place) small h = absurd (omega (arith, h.below_limit))
refused_for_memory i workers refusals.ReadFault small h = absurd h
refused_for_memory i workers refusals.NoMemory small h = refl
refused_for_memory i workers refusals.ProofLimit small h = absurd h

-- a best plan is a cheapest choice
pub cheapest : (i : Instance) (choice : List ℕ) → IsBestPlan (meaning_of i) choice → IsCheapest i choice
cheapest i choice best = record { feasible = best.feasible; cheapest = best.cheapest }

-- a best choice is worth the greatest value, which one has and none exceeds
pub worth_the_greatest : (i : Instance) (choice : List ℕ) → IsBest i choice →
    ((other : List ℕ) × IsFeasible i other × (value_of i.items other ≡ greatest_value i)) →
    value_of i.items choice ≤ greatest_value i → value_of i.items choice ≡ greatest_value i
worth_the_greatest i choice best one most =
    omega (arith, best.best one.0 one.1, one.2, most)
