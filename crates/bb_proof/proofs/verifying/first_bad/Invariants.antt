use Rattle.std.proofs.Common.{◌≡◌}
use Rattle.bb_knap.specs.Branching.{tree_of}
use Rattle.bb_proof.proofs.Bad.{IsBadFrom}
use Rattle.bb_proof.proofs.verifying.first_bad.Given as goal

-- so many tokens were accepted
abbrev pub invariant-loop-place : goal.invariant-loop-place
invariant-loop-place l = record {
  same : l.walk.instance ≡ l.problem;
  bad : IsBadFrom (tree_of l.problem) l.cost l.tokens l.place l.walk.pending;
}
