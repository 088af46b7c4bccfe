use Rattle.std.proofs.Common.{subst}
use Rattle.bb_problem.specs.Expanding.{IsExpanded, step_of}
use Rattle.bb_knap.specs.Branching.{meaning_of}
use Rattle.bb_knap.proofs.problem.KnapsackProblem.expand.Goals as goal

pub returns-in-Some-clause-expanded : goal.returns-in-Some-clause-expanded
returns-in-Some-clause-expanded c = λ name s.
    subst (λ leaf. IsExpanded (meaning_of c.args.self.now) name (step_of leaf c.expand_into.new.children)) c.in-Some.is (c.in_ok-plan.ensures.expanded name s)
