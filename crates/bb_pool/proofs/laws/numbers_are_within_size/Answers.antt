use Rattle.bb_problem.specs.Meaning.{IsLawful}
use Rattle.bb_pool.proofs.Numbers.{within_size}
use Rattle.bb_pool.proofs.laws.numbers_are_within_size.Goals as goal

pub returns : goal.returns
returns g c = let p = c.args.problem.now in
    let laws : IsLawful (g.P.Problem.meaning p) = (g.met.P.Problem g.world.𝓛 g.world.𝓜 g.world.𝓡 ((λ s x. x), (λ x. x), (λ x. x), λ x. x)).lawful p c.requires.valid in
    within_size (g.P.Problem.meaning p) laws c.numbers_are_names.ensures
