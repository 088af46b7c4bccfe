use Rattle.std.proofs.Common.{◌≤◌, ◌++◌, [], ◌∷◌, ◌∙◌, ℕ, List, length, refl, ap, subst}
use Rattle.pq_io.specs.Inputs.{longest_input}
use Rattle.inst_text.specs.declared.plan.Claimed.{Claimed}
use Rattle.inst_text.specs.Plans.{AreStartsOf, shop_plan_of}
use Rattle.bb_shop.specs.Plans.{makespan}
use Rattle.bb_shop.specs.declared.verdict.ShopVerdict.TheVariants.{Feasible}
use Rattle.pq_cli.proofs.Makespans.{makespan_within}
use Rattle.pq_cli.proofs.laws.solved_schedules_are_checked.Goals as goal

pub returns : goal.returns
returns c = λ bytes text s size.
    let shop = s.instance in
    let claimed : Claimed (List (List ℕ)) = record { stated = makespan shop s.plan; plan = s.plan } in
    let is = (c.shop_texts_are_read.ensures (bytes ++ 10 ∷ []) shop).0 s.reads in
    let early = c.best_starts_are_early.ensures shop s.plan is.limits (record { feasible = s.best.feasible; cheapest = s.best.cheapest }) in
    let shape : AreStartsOf shop s.plan = record { jobs = s.best.feasible.shaped.rows; steps = s.best.feasible.shaped.times; limits = early } in
    let read = c.starts_are_read_behind.ensures bytes shop claimed is (makespan_within shop s.plan is.limits early) shape
    (subst (λ (t : List ℕ). length (bytes ++ 10 ∷ t) ≤ longest_input) s.written size) in (
      claimed.stated,
      record {
        instance = shop;
        claimed = claimed;
        reads = ap (λ (t : List ℕ). shop_plan_of (bytes ++ 10 ∷ t)) s.written ∙ read;
        judged = record { verdict = Feasible; judged = (s.best.feasible, refl); ended = refl; written = refl };
      },
    )
