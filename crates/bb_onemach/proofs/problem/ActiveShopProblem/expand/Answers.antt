use Rattle.std.proofs.Common.{◌≡◌, ℕ, ◌≤◌, List, [], length, sym, ap, subst, ◌∙◌, arith}
use Rattle.std.proofs.lemmas.Bool.{false≢true}
use Rattle.std.proofs.lemmas.Bool.Decides.{nat_tests}
use Rattle.std.proofs.lemmas.List.{nil_from_length}
use Rattle.inst_text.specs.Shop.{JobShop}
use Rattle.bb_problem.specs.Expanding.{StandBelow}
use Rattle.bb_shop.specs.Branching.{Stands}
use Rattle.bb_shop.specs.Plans.{IsFeasible, makespan}
use Rattle.bb_shop.specs.Working.{left_in, next_at}
use Rattle.bb_shop.specs.TreeLawsHold.Standing.{stands_fits}
use Rattle.bb_onemach.specs.Branching.{competing, active_children, Reaches}
use Rattle.bb_onemach.proofs.Branched.{competing_are_children, none_compete, leaf_stands}
use Rattle.bb_onemach.proofs.problem.ActiveShopProblem.expand.Goals as goal
use Rattle.bb_onemach.proofs.problem.ActiveShopProblem.expand.Goals.{then-fits+else-not-is_empty, else-fits}

pub returns-then-not-is_empty-clause-expanded : goal.returns-then-not-is_empty-clause-expanded
returns-then-not-is_empty-clause-expanded c =
    let node = c.args.node in
    let nodes = c.in_ok-branch.field-0.items in
    subst (λ (s : JobShop). (name : List ℕ) → Stands s node name → StandBelow (Stands s) name nodes (active_children s name)) c.shop-shop.ensures.shop
    (λ name stands.
    let s = c.shop-shop.result.now in
    let jobs : c.as_slice.result.now ≡ competing (next_at s node) (left_in s.machines node.steps) = c.as_slice.ensures.value ∙ c.competing-jobs.ensures.jobs in
    let some : 1 ≤ length (competing (next_at s node) (left_in s.machines node.steps)) =
    grind (arith, nat_tests, c.is_empty.ensures, c.if-not-is_empty.true, ap (λ (xs : List ℕ). length xs) c.competing-jobs.ensures.jobs) in
    subst (StandBelow (Stands s) name nodes) (jobs ∙ competing_are_children s node name stands some) (c.in_ok-branch.ensures.stand name stands))

pub returns-clause-expanded : goal.returns-clause-expanded
returns-clause-expanded c =
    let node = c.args.node in
    let starts = c.in_ok-starts_of.field-0 in
    subst (λ (s : JobShop). (name : List ℕ) → Stands s node name → (active_children s name ≡ []) × IsFeasible s starts × ((v : ℕ) → Reaches s name v → makespan s starts ≤ v)) c.shop-shop.ensures.shop
    (λ name stands.
    let s = c.shop-shop.result.now in
    let none : left_in s.machines node.steps ≡ [] =
    elim c.if-fits.branch [
      | then-fits+else-not-is_empty w ↦
          let compete = competing (next_at s node) (left_in s.machines node.steps) in
          let empty : length compete ≡ 0 = grind (arith, nat_tests, w.is_empty.ensures, w.if-not-is_empty.false, ap (λ (xs : List ℕ). length xs) w.competing-jobs.ensures.jobs) in
          none_compete s node (nil_from_length compete empty)
      | else-fits w ↦ absurd (false≢true (sym w.if-fits.false ∙ c.fits.ensures.fits.1 (stands_fits s node name c.fits.ensures.within_limits stands)))
    ] in
    leaf_stands s node name starts c.fits.ensures.within_limits stands none (c.in_ok-starts_of.ensures.starts name stands))
