use Rattle.std.proofs.Common.{◌≤◌, ◌++◌, [], ◌∷◌, ◌∙◌, ℕ, List, length, refl, ap, subst, arith}
use Rattle.pq_io.specs.Inputs.{longest_input}
use Rattle.inst_text.specs.declared.plan.Claimed.{Claimed}
use Rattle.inst_text.specs.Plans.{knapsack_plan_of}
use Rattle.bb_knap.specs.Plans.{value_of}
use Rattle.bb_knap.specs.declared.verdict.KnapVerdict.TheVariants.{Feasible}
use Rattle.pq_cli.proofs.laws.solved_choices_are_checked.Goals as goal

pub returns : goal.returns
returns c = λ branching bytes text s size.
    let i = s.instance in
    let value : ℕ = value_of i.items s.plan in
    let claimed : Claimed (List ℕ) = record { stated = value; plan = s.plan } in
    let is = (c.knapsack_texts_are_read.ensures (bytes ++ 10 ∷ []) i).0 s.reads in
    let limit : value ≤ 4294967295 = omega (arith, c.value_and_cost_are_all.ensures i s.plan s.best.feasible.chosen, is.limits.values) in
    let read = c.choices_are_read_behind.ensures bytes i claimed is limit s.best.feasible.chosen
    (subst (λ (t : List ℕ). length (bytes ++ 10 ∷ t) ≤ longest_input) s.written size) in (
      value,
      record {
        instance = i;
        claimed = claimed;
        reads = ap (λ (t : List ℕ). knapsack_plan_of (bytes ++ 10 ∷ t)) s.written ∙ read;
        judged = record { verdict = Feasible; judged = (s.best.feasible, refl); ended = refl; written = refl };
      },
    )
