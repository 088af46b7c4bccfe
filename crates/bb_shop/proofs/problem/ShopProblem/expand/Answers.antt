use Rattle.std.proofs.Common.{◌≡◌, ◌≤◌, [], length, sym, ap, subst, ◌∙◌, arith}
use Rattle.std.proofs.lemmas.Bool.{false≢true}
use Rattle.std.proofs.lemmas.Bool.Decides.{nat_tests}
use Rattle.std.proofs.lemmas.List.{nil_from_length}
use Rattle.bb_problem.specs.Expanding.{StandBelow}
use Rattle.bb_shop.specs.Branching.{Stands}
use Rattle.bb_shop.specs.Working.{left_in}
use Rattle.bb_shop.specs.TreeLawsHold.Standing.{stands_fits, left_are_children, leaf_stands}
use Rattle.bb_shop.proofs.problem.ShopProblem.expand.Goals as goal
use Rattle.bb_shop.proofs.problem.ShopProblem.expand.Goals.{then-fits+else-not-is_empty, else-fits}

pub returns-then-not-is_empty-clause-expanded : goal.returns-then-not-is_empty-clause-expanded
returns-then-not-is_empty-clause-expanded c = λ name stands.
    let s = c.args.self.now in
    let node = c.args.node in
    let jobs : c.as_slice.result.now ≡ left_in s.machines node.steps = c.as_slice.ensures.value ∙ c.jobs_left-jobs.ensures.jobs in
    let some : 1 ≤ length (left_in s.machines node.steps) = grind (arith, nat_tests, c.is_empty.ensures, c.if-not-is_empty.true, ap length c.jobs_left-jobs.ensures.jobs) in
    subst (StandBelow (Stands s) name c.in_ok-branch.field-0.items) (jobs ∙ left_are_children s node name stands some) (c.in_ok-branch.ensures.stand name stands)

pub returns-clause-expanded : goal.returns-clause-expanded
returns-clause-expanded c = λ name stands.
    let s = c.args.self.now in
    let node = c.args.node in
    let none : left_in s.machines node.steps ≡ [] =
    elim c.if-fits.branch [
      | then-fits+else-not-is_empty w ↦
          let empty : length (left_in s.machines node.steps) ≡ 0 = grind (arith, nat_tests, w.is_empty.ensures, w.if-not-is_empty.false, ap length w.jobs_left-jobs.ensures.jobs) in
          nil_from_length (left_in s.machines node.steps) empty
      | else-fits w ↦ absurd (false≢true (sym w.if-fits.false ∙ c.fits.ensures.fits.1 (stands_fits s node name c.fits.ensures.within_limits stands)))
    ] in
    leaf_stands s node name c.in_ok-starts_of.field-0 c.fits.ensures.within_limits stands none (c.in_ok-starts_of.ensures.starts name stands)
