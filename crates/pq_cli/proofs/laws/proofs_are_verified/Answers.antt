use Rattle.std.proofs.Common.{◌≤◌, ◌++◌, [], ◌∷◌, ◌∙◌, ℕ, zero, suc, List, length, Bool, true, false, nat_le, if◌then◌else◌, refl, ap, subst, arith}
use Rattle.std.specs.List.{flat_map}
use Rattle.pq_io.specs.Inputs.{longest_input}
use Rattle.inst_text.specs.Limits.{max_stated}
use Rattle.inst_text.specs.declared.plan.Claimed.{Claimed}
use Rattle.bb_problem.specs.Tree.{Tree, below}
use Rattle.bb_knap.specs.Plans.{value_of, cost_of, IsCheapest}
use Rattle.bb_knap.specs.Branching.{tree_of}
use Rattle.bb_proof.specs.declared.verdict.ProofVerdict.TheVariants.{Proved}
use Rattle.bb_proof.specs.Tokens.{canonical_from}
use Rattle.bb_proof.specs.Texts.{proof_of}
use Rattle.pq_cli.specs.Proving.{proof_for}
use Rattle.pq_cli.proofs.laws.proofs_are_verified.Goals as goal

some_of : (b : Bool) (tokens : List Bool) → 1 ≤ length (if b then false ∷ [] else true ∷ tokens)
some_of true tokens = omega arith
some_of false tokens = omega arith

-- a canonical proof has a token at least
some_token : (tree : Tree) (cost more : ℕ) (name : List ℕ) → 1 ≤ length (canonical_from tree cost more name)
some_token tree cost zero name = omega arith
some_token tree cost (suc more) name = some_of (nat_le cost (tree.bound name)) (flat_map (λ k. canonical_from tree cost more (below name k)) (tree.children name))

pub returns : goal.returns
returns c = λ limits bytes text s size.
    let i = s.instance in
    let value : ℕ = value_of i.items s.choice in
    let claimed : Claimed (List ℕ) = record { stated = value; plan = s.choice } in
    let tokens = proof_for i s.choice in
    let cost = cost_of i s.choice in
    let feasible = s.best.feasible in
    let is = (c.knapsack_texts_are_read.ensures (bytes ++ 10 ∷ []) i).0 s.reads in
    let limit : value ≤ max_stated = omega (arith, c.value_and_cost_are_all.ensures i s.choice feasible.chosen, is.limits.values) in
    let some = some_token (tree_of i) cost (tree_of i).height [] in
    let read = c.proofs_are_read_behind.ensures bytes i claimed tokens is limit feasible.chosen some s.few
    (subst (λ (t : List ℕ). length (bytes ++ 10 ∷ t) ≤ longest_input) s.written size) in
    let cheapest : IsCheapest i s.choice = record { feasible = feasible; cheapest = s.best.cheapest } in
    let accepted = c.canonical_is_accepted.ensures i cost s.best.cheapest in
    let no_bad = (c.accepted_have_no_bad_token.ensures (tree_of i) cost tokens).0 accepted in (
      value,
      record {
        instance = i;
        claimed = claimed;
        tokens = tokens;
        verdict = Proved;
        reads = ap (λ (t : List ℕ). proof_of (bytes ++ 10 ∷ t)) s.written ∙ read;
        judged = record { feasible = (feasible, refl); bad = no_bad };
        best = record { best = (c.best_is_cheapest.ensures i s.choice).1 cheapest; value = refl };
        ended = refl;
        written = refl;
      },
    )
