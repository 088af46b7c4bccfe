use Rattle.std.proofs.Common.{◌≡◌, ℕ, List, length, map, sym, ap, subst, ◌∙◌, arith}
use Rattle.std.proofs.lemmas.Bool.{false≢true}
use Rattle.inst_text.specs.Shop.{JobShop, IsJobShop}
use Rattle.bb_shop.specs.Dispatching.{state_of}
use Rattle.bb_shop.specs.Branching.{Stands}
use Rattle.bb_shop.specs.TreeLawsHold.Standing.{stands_fits}
use Rattle.bb_onemach.specs.Bounds.{bound_by, bound_of}
use Rattle.bb_onemach.specs.TreeLawsHold.Bounded.{bound_within}
use Rattle.bb_onemach.proofs.problem.ActiveShopProblem.bound.Goals as goal

pub returns-then-not-fits-clause-exact : goal.returns-then-not-fits-clause-exact
returns-then-not-fits-clause-exact c =
    let node = c.args.node.now in
    subst (λ (s : JobShop). (name : List ℕ) → Stands s node name → 0 ≡ bound_of s name) c.shop.ensures.shop
    (λ name stands. absurd (false≢true (sym c.if-not-fits.true ∙ c.fits.ensures.fits.1 (stands_fits c.shop.result.now node name c.fits.ensures.within_limits stands))))

pub returns-clause-exact : goal.returns-clause-exact
returns-clause-exact c = λ name stands.
    let s = c.args.self.now in
    let node = c.args.node.now in
    let st = state_of s name in
    let same : c.bound_by.result ≡ bound_of s name =
    c.bound_by.ensures ∙ ap (λ xs. bound_by s xs c.jobs.result.now c.machines.result.now) (c.steps.ensures ∙ stands.steps)
    ∙ ap (λ xs. bound_by s (map length st.starts) xs c.machines.result.now) (c.jobs.ensures.jobs ∙ stands.jobs)
    ∙ ap (bound_by s (map length st.starts) st.jobs) (c.machines.ensures.machines ∙ stands.machines) in
    let shop = subst IsJobShop c.shop.ensures.shop c.fits.ensures.within_limits in
    omega (arith, c.min.ensures, same, bound_within s name shop stands.order)
