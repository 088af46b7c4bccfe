-- What a search ended with, as a plan or a refusal.
use Rattle.std.proofs.Common.{◌≡◌, ◌≢◌, ◌≤◌, false, subst, ℕ}
use Rattle.bb_problem.specs.Meaning.{Meaning}
use Rattle.bb_pool.specs.declared.outcome.Outcome.{Outcome}
use Rattle.bb_pool.specs.declared.outcome.Outcome.TheVariants as outcomes
use Rattle.bb_pool.specs.Outcomes.{IsOptimal, IsOutcome}
use Rattle.bb_pool.specs.SearchOutcomes.{IsSearchOutcome}
use Rattle.cli_words.specs.declared.limits.Limits.{Limits}
use Rattle.pq_cli.specs.Refusals.{plan_of, is_stopped}
use Rattle.pq_cli.specs.Using.{IsBestPlan}
use Rattle.pq_cli.specs.Work.{IsPlanned}

best_plan : {N P : Type 0} (m : Meaning N P) (plan : P) (cost : ℕ) → IsOptimal m.is_feasible m.cost_of plan cost → IsBestPlan m plan
best_plan m plan cost best = record {
  feasible = best.feasible_is;
  cheapest = λ other feasible. subst (λ n. n ≤ m.cost_of other) best.cost_is (best.least other feasible);
}

-- of one worker, under the node limit and over a queue of the capacity of these limits
pub planned : {N P : Type 0} (m : Meaning N P) (limits : Limits) (outcome : Outcome P) →
    IsOutcome m limits.nodes limits.capacity outcome → IsPlanned m limits (plan_of outcome)
planned m limits (outcomes.Best plan cost) h = (best_plan m plan cost h.1.optimal, λ alone. h.1.limits)
planned m limits (outcomes.NodeLimit asked limit) h = h
planned m limits (outcomes.Full place) h = h
planned m limits outcomes.NoMemory h = tt

-- of several, which no limit has stopped
pub planned_by_all : {N P : Type 0} (m : Meaning N P) (limits : Limits) (outcome : Outcome P) → limits.workers ≢ 1 → is_stopped outcome ≡ false →
    IsSearchOutcome m limits.nodes limits.capacity limits.workers outcome → IsPlanned m limits (plan_of outcome)
planned_by_all m limits (outcomes.Best plan cost) several ran h = (best_plan m plan cost h.0, λ alone. absurd (several alone))
planned_by_all m limits (outcomes.NodeLimit asked limit) several ran h = absurd (cc)
planned_by_all m limits (outcomes.Full place) several ran h = absurd (cc)
planned_by_all m limits outcomes.NoMemory several ran h = tt
