-- The knapsack's texts, and its verdicts.
use Rattle.std.specs.Prelude.{ℕ, ◌≡◌, List, [], ◌∷◌, ◌++◌}
use Rattle.inst_text.specs.declared.plan.Claimed.{Claimed}
use Rattle.inst_text.specs.Knapsack.{Instance, knapsack_of, choice_text}
use Rattle.inst_text.specs.Plans.{knapsack_plan_of}
use Rattle.bb_knap.specs.declared.verdict.KnapVerdict.{KnapVerdict}
use Rattle.bb_knap.specs.declared.verdict.KnapVerdict.TheVariants.{Feasible}
use Rattle.bb_knap.specs.Verdicts.{IsVerdict}
use Rattle.bb_knap.specs.Verdicts as verdicts
use Rattle.bb_knap.specs.Plans.{value_of}
use Rattle.bb_knap.specs.Branching.{root_bound}
use Rattle.pq_cli.specs.declared.status.Status.{Status}
use Rattle.pq_cli.specs.declared.status.Status.TheVariants as statuses
use Rattle.pq_cli.specs.Texts.{feasible_text}
use Rattle.pq_cli.specs.Using.{Texts}

-- the verdict on a choice with this stated value
abbrev pub verdict_text : ℕ → KnapVerdict → List ℕ
verdict_text stated Feasible = feasible_text stated
verdict_text stated verdict = verdicts.verdict_text verdict ++ 10 ∷ []

-- the status that it ends with
abbrev pub verdict_status : KnapVerdict → Status
verdict_status Feasible = statuses.Ok
verdict_status _ = statuses.Illegal

pub record IsJudged (i : Instance) (c : Claimed (List ℕ)) (status : Status) (text : List ℕ) : Type 0 where
  pub verdict : KnapVerdict
  pub judged : IsVerdict i c.plan c.stated verdict
  pub ended : status ≡ verdict_status verdict
  pub written : text ≡ verdict_text c.stated verdict

-- a choice's text states its value
abbrev pub texts : Texts Instance (List ℕ)
texts = record {
  instance_of = knapsack_of;
  plan_of = knapsack_plan_of;
  plan_text = λ i choice. choice_text (value_of i.items choice) choice;
  root_bound = root_bound;
  IsVerdict = IsJudged;
}
