-- What a problem means to the program, beside what it means to a search.
use Rattle.std.specs.Prelude.{ℕ, ◌≡◌, ◌≤◌, List, Result, Ok}
use Rattle.pq_io.specs.declared.text.fault.BadInput.{BadInput}
use Rattle.inst_text.specs.declared.plan.Claimed.{Claimed}
use Rattle.bb_problem.specs.Meaning.{Meaning}
use Rattle.bb_problem.specs.Tree.{Tree}
use Rattle.bb_pool.specs.Outcomes.{LeaveRoom}
use Rattle.cli_words.specs.declared.limits.Limits.{Limits}
use Rattle.pq_cli.specs.declared.status.Status.{Status}
use Rattle.pq_cli.specs.Texts.{bound_text}

-- The texts of a problem whose instances are of a type `I` and whose plans are of a type `P`.
pub record Texts (I P : Type 0) : Type 1 where
  -- the instance that bytes read as, or their first fault
  pub instance_of : List ℕ → Result I BadInput
  -- the instance and the plan behind it that bytes read as, or their first fault
  pub plan_of : List ℕ → Result (I × Claimed P) BadInput
  pub plan_text : I → P → List ℕ
  -- what the root's bound allows
  pub root_bound : I → ℕ
  -- the status and the text of the verdict on a plan and the number that is stated for it
  pub IsVerdict : I → Claimed P → Status → List ℕ → Type 0

-- a feasible plan that no feasible plan betters
pub record IsBestPlan {N P : Type 0} (m : Meaning N P) (plan : P) : Type 0 where
  pub feasible : m.is_feasible plan
  pub cheapest : (other : P) → m.is_feasible other → m.cost_of plan ≤ m.cost_of other

-- Where one worker searched, the limits leave room for what it did not get around: it finds no best plan with fewer
-- nodes, or with less room for open ones. Of several workers nothing is said here.
abbrev pub HaveRoom : Limits → Tree → ℕ → Type 0
HaveRoom limits tree least = limits.workers ≡ 1 → LeaveRoom tree least limits.nodes limits.capacity

-- The text of a best plan of the instance that was read.
pub record IsSolution {I N P : Type 0} (meaning : I → Meaning N P) (texts : Texts I P)
    (bytes text : List ℕ) : Type 0 where
  pub instance : I
  pub plan : P
  pub reads : texts.instance_of bytes ≡ Ok instance
  pub best : IsBestPlan (meaning instance) plan
  pub written : text ≡ texts.plan_text instance plan

-- The same, found by a search within its limits.
pub record IsSolved {I N P : Type 0} (meaning : I → Meaning N P) (texts : Texts I P)
    (limits : Limits) (bytes text : List ℕ) : Type 0 where
  pub solution : IsSolution meaning texts bytes text
  pub room : HaveRoom limits (meaning solution.instance).tree (meaning solution.instance).least

-- The text of the root's bound of the instance that was read.
pub record IsRootBound {I P : Type 0} (texts : Texts I P) (bytes text : List ℕ) : Type 0 where
  pub instance : I
  pub reads : texts.instance_of bytes ≡ Ok instance
  pub written : text ≡ bound_text (texts.root_bound instance)

-- The status and the text of the verdict on the plan and the number stated for it, which were read with their instance.
pub record IsChecked {I P : Type 0} (texts : Texts I P)
    (bytes : List ℕ) (status : Status) (text : List ℕ) : Type 0 where
  pub instance : I
  pub claimed : Claimed P
  pub reads : texts.plan_of bytes ≡ Ok (instance, claimed)
  pub judged : texts.IsVerdict instance claimed status text
