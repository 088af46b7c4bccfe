-- The numbers are drawn by one step on the made word.
use Rattle.std.proofs.Common.{◌+◌, ◌%◌, ◌^◌, ℕ, ◌∙◌, sym, subst, arith}
use mathlib.Core.Option.{none}
use Rattle.atomic_table.specs.Table.{Allows, step}
use Rattle.bb_shared.specs.StoreRules.{IsStore, drew}
use Rattle.bb_shared.proofs.StoreSteps.{draws}
use Rattle.bb_shared.proofs.store.nodes.Store.draw_as.Goals as goal

pub fetch_add-requires : goal.fetch_add-requires
fetch_add-requires g c = let wide = c.self.invariant in let slots = c.self.inside.table.shared.table_id.slots in let few = c.ranges.limit.fits in (
  c.requires.own ∙ sym c.self.view_is,
  omega arith,
  subst (λ (z : ℕ). Allows (IsStore c.self.inside.table.shared.key) slots c.args.seat.now.id c.args.seat.now.me 0 (λ x. (x + c.args.count) % 2 ^ 64) (λ x w. drew (step slots 0 c.args.count 0 none) c.args.seat.now.me x w z)) (sym c.requires.picked)
      (draws c.self.inside.table.shared.key slots c.args.seat.now.id c.args.seat.now.me c.args.count c.args.limit c.requires.some c.requires.under c.requires.count.1 (omega arith)),
)
