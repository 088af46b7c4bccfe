use Rattle.std.proofs.Common.{◌≡◌, [], ◌∷◌, None, sym, ◌∙◌, arith, length}
use Rattle.bb_knap.specs.Branching.{tree_of}
use Rattle.bb_knap.proofs.Totals.{value_of-le}
use Rattle.bb_proof.specs.Tokens.{first_bad}
use Rattle.bb_proof.proofs.Accepted.{accepts_of}
use Rattle.bb_proof.proofs.Sound.{accepted_is_below}
use Rattle.bb_proof.proofs.verifying.verify.Goals as goal

pub returns-in-None-clause-best : goal.returns-in-None-clause-best
returns-in-None-clause-best c =
    let i = c.args.problem.now in
    let choice = c.args.claimed.now.plan in
    let cost = c.cost-cost.result in
    let tokens = c.as_slice.result.now in
    let none : first_bad (tree_of i) cost tokens ≡ None = sym c.in_ok-place-in-Feasible.ensures ∙ c.in-None.is in
    let below_all = accepted_is_below i cost tokens (accepts_of (tree_of i) cost ([] ∷ []) tokens none) in
    record {
      best = record {
        feasible = c.in-Feasible.ensures.0;
        best = λ other feasible. omega (arith, below_all other feasible, c.cost-cost.ensures, value_of-le i.items (length i.items) other feasible.chosen);
      };
      value = c.in-Feasible.ensures.1;
    }
