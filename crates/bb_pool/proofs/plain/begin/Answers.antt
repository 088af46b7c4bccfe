use Rattle.std.proofs.Common.{refl, ap, length, arith, []}
use Rattle.bb_problem.specs.Meaning.{IsLawful}
use Rattle.bb_pool.proofs.OnePass.Calls.{begun}
use Rattle.bb_pool.proofs.OnePass.Turns.{put_underway}
use Rattle.bb_pool.proofs.plain.begin.Goals as goal

pub returns-clause-begun : goal.returns-clause-begun
returns-clause-begun g c = let p = c.args.problem.now in let valid = c.in_ok-root.ensures.valid in
    let laws : IsLawful (g.P.Problem.meaning p) = (g.met.P.Problem g.world.𝓛 g.world.𝓜 g.world.𝓡 ((λ s x. x), (λ x. x), (λ x. x), λ x. x)).lawful p valid in
    put_underway [] [] _ _ (begun c.args.nodes _ laws c.requires.fresh c.in_ok-store.ensures refl) c.in_ok-put.ensures.put c.in_ok-root.ensures.root (c.bound-key.ensures.exact [] c.in_ok-root.ensures.root)
    (let none = ap length c.in_ok-store.ensures in let some = c.requires.nodes.0 in omega arith)
