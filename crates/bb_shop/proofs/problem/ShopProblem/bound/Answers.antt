use Rattle.std.proofs.Common.{◌≡◌, sym, ap, ◌∙◌, arith}
use Rattle.std.proofs.lemmas.Bool.{false≢true}
use Rattle.bb_shop.specs.Working.{bound_by}
use Rattle.bb_shop.specs.TreeLawsHold.Bounded.{bound_within}
use Rattle.bb_shop.specs.TreeLawsHold.Standing.{stands_fits, stands_bound}
use Rattle.bb_shop.proofs.problem.ShopProblem.bound.Goals as goal

pub returns-then-not-fits-clause-exact : goal.returns-then-not-fits-clause-exact
returns-then-not-fits-clause-exact c = λ name stands.
    absurd (false≢true (sym c.if-not-fits.true ∙ c.fits.ensures.fits.1 (stands_fits c.args.self.now c.args.node.now name c.fits.ensures.within_limits stands)))

pub returns-clause-exact : goal.returns-clause-exact
returns-clause-exact c = λ name stands.
    let s = c.args.self.now in
    let node = c.args.node.now in
    let same : c.bound_by.result ≡ bound_by s node.steps node.jobs node.machines =
    c.bound_by.ensures ∙ ap (λ xs. bound_by s xs c.jobs.result.now c.machines.result.now) c.steps.ensures
    ∙ ap (λ xs. bound_by s node.steps xs c.machines.result.now) c.jobs.ensures.jobs ∙ ap (bound_by s node.steps node.jobs) c.machines.ensures.machines in
    omega (arith, c.min.ensures, same, stands_bound s node name stands, bound_within s name c.fits.ensures.within_limits stands.order)
