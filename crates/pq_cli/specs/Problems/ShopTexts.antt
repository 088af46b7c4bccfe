-- The job shop's texts, and its verdicts.
use Rattle.std.specs.Prelude.{ℕ, ◌≡◌, List, [], ◌∷◌, codes}
use Rattle.std.specs.Fmt.{decimal}
use Rattle.pq_io.specs.Writing.{lines_text}
use Rattle.inst_text.specs.declared.plan.Claimed.{Claimed}
use Rattle.inst_text.specs.Shop.{JobShop, shop_of, starts_text}
use Rattle.inst_text.specs.Plans.{shop_plan_of}
use Rattle.bb_shop.specs.declared.verdict.ShopVerdict.{ShopVerdict}
use Rattle.bb_shop.specs.declared.verdict.ShopVerdict.TheVariants.{Feasible, BadOrder, BadMachine, BadMakespan}
use Rattle.bb_shop.specs.Verdicts.{IsVerdict}
use Rattle.bb_shop.specs.Plans.{makespan}
use Rattle.bb_shop.specs.Bounds.{root_bound}
use Rattle.pq_cli.specs.declared.status.Status.{Status}
use Rattle.pq_cli.specs.declared.status.Status.TheVariants as statuses
use Rattle.pq_cli.specs.Texts.{feasible_text}
use Rattle.pq_cli.specs.Using.{Texts}

-- the verdict on start times with this stated makespan
abbrev pub verdict_text : ℕ → ShopVerdict → List ℕ
verdict_text stated Feasible = feasible_text stated
verdict_text stated (BadOrder j k) = lines_text ((codes "bad" ∷ codes "order" ∷ decimal j ∷ decimal k ∷ []) ∷ [])
verdict_text stated (BadMachine i h j k) =
    lines_text ((codes "bad" ∷ codes "machine" ∷ decimal i ∷ decimal h ∷ decimal j ∷ decimal k ∷ []) ∷ [])
verdict_text stated (BadMakespan makespan) = lines_text ((codes "bad" ∷ codes "makespan" ∷ decimal makespan ∷ []) ∷ [])

-- the status that it ends with
abbrev pub verdict_status : ShopVerdict → Status
verdict_status Feasible = statuses.Ok
verdict_status _ = statuses.Illegal

pub record IsJudged (s : JobShop) (c : Claimed (List (List ℕ))) (status : Status) (text : List ℕ) : Type 0 where
  pub verdict : ShopVerdict
  pub judged : IsVerdict s c.plan c.stated verdict
  pub ended : status ≡ verdict_status verdict
  pub written : text ≡ verdict_text c.stated verdict

-- the text of start times states their makespan
abbrev pub texts : Texts JobShop (List (List ℕ))
texts = record {
  instance_of = shop_of;
  plan_of = shop_plan_of;
  plan_text = λ s starts. starts_text (makespan s starts) starts;
  root_bound = root_bound;
  IsVerdict = IsJudged;
}
