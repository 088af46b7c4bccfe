-- The number is drawn by one step on the made word.
use Rattle.std.proofs.Common.{◌+◌, ◌%◌, ◌^◌, ℕ, ◌∙◌, ap, sym, subst, arith}
use mathlib.Core.Option.{none}
use Rattle.atomic_table.specs.Table.{Allows, step}
use Rattle.pq_timers.specs.Words.{TimersSeen}
use Rattle.pq_timers.specs.WordRules.{IsTimers, drew}
use Rattle.pq_timers.proofs.Drawing.{draws}
use Rattle.pq_timers.proofs.words.table.TimerTable.draw_as.Goals as goal

pub fetch_add-requires : goal.fetch_add-requires
fetch_add-requires g c = let wide = c.self.invariant.0 in let slots = c.self.inside.table.shared.table_id.slots in (
  c.requires.own ∙ sym (ap (λ (z : TimersSeen). z.table) c.self.view_is),
  omega arith,
  subst (λ (z : ℕ). Allows (IsTimers c.self.inside.table.shared.key) slots c.args.seat.now.id c.args.seat.now.me 0 (λ x. (x + 1) % 2 ^ 64) (λ x w. drew (step slots 0 1 0 none) c.args.seat.now.me x w z)) (sym c.requires.picked)
      (draws c.self.inside.table.shared.key slots c.args.seat.now.id c.args.seat.now.me c.args.moment c.requires.some c.requires.idle c.requires.few),
)
