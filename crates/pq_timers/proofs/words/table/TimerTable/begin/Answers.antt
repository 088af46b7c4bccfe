-- A fresh table is under the rule.
use Rattle.std.proofs.Common.{◌+◌, ◌*◌, ℕ, sym, ◌∙◌, subst, arith, refl}
use Rattle.std.specs.Prelude.{List, []}
use Rattle.atomic_table.specs.Table.{opening}
use Rattle.pq_timers.specs.WordRules.{IsTimers, first_giver}
use Rattle.pq_timers.proofs.Deals.{opens}
use Rattle.pq_timers.proofs.words.table.TimerTable.begin.Goals as goal

pub of_words-requires : goal.of_words-requires
of_words-requires c =
    let small = c.requires.seats in let few = c.requires.timers in
    let words = c.as_slice.ensures.value ∙ c.in_ok-words.ensures.items_if_clones_equal (λ y is. is) in
    subst (λ (z : List ℕ). IsTimers c.args.limits (opening z [] (first_giver c.args.limits))) (sym words) (opens c.args.limits (2 * c.args.limits.timers + 1) [] refl (omega arith) (omega arith))
