use Rattle.std.proofs.Common.{sym, subst}
use Rattle.inst_text.specs.Knapsack.{Instance}
use Rattle.bb_proof.specs.Verdicts.{IsBelowAll}
use Rattle.bb_tests.proofs.Alike.{below_all}
use Rattle.bb_tests.proofs.tests.long_proofs.tells_a_proof_that_is_too_long.Goals as goal

pub prove-made-requires : goal.prove-made-requires
prove-made-requires g c = subst (λ (i : Instance). IsBelowAll i 24) (sym c.in_ok-knapsack.ensures) below_all
