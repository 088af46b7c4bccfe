use Rattle.std.proofs.Common.{[], ◌∷◌, ap, ◌∙◌}
use Rattle.bb_knap.specs.Branching.{tree_of}
use Rattle.bb_proof.specs.Tokens.{canonical, first_bad}
use Rattle.bb_proof.proofs.Accepted.{none_of}
use Rattle.bb_proof.proofs.Complete.{canonical_accepted}
use Rattle.bb_proof.proofs.proving.prove.Goals as goal

pub returns-in-Ok-Some-clause-good : goal.returns-in-Ok-Some-clause-good
returns-in-Ok-Some-clause-good c =
    let tree = tree_of c.args.problem.now in
    let made = rw c.in-Ok-Some.field-0-is at c.in-Ok-Some.ensures in
    ap (first_bad tree c.args.cost) (made.0)
    ∙ none_of tree c.args.cost ([] ∷ []) (canonical tree c.args.cost) (canonical_accepted c.args.problem.now c.args.cost c.requires)
