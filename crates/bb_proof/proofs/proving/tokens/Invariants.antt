use Rattle.std.proofs.Common.{◌≡◌, ◌++◌, length}
use Rattle.bb_knap.specs.Branching.{tree_of}
use Rattle.bb_proof.specs.Tokens.{canonical}
use Rattle.bb_proof.proofs.Canonical.{canonical_all}
use Rattle.bb_proof.proofs.proving.tokens.Given as goal

-- the tokens so far, and those of what is pending, make up the proof
abbrev pub invariant-loop : goal.invariant-loop
invariant-loop l = record {
  count : length l.tokens.items ≡ l.counter;
  same : l.walk.instance ≡ l.problem;
  rest : canonical (tree_of l.problem) l.cost ≡ l.tokens.items ++ canonical_all (tree_of l.problem) l.cost l.walk.pending;
}
