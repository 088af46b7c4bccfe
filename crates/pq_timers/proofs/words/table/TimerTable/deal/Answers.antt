-- One part goes to the new seat.
use Rattle.std.proofs.Common.{◌∙◌, ap, sym, subst, arith}
use Rattle.atomic_table.specs.Table.{Me, Splits}
use Rattle.pq_timers.specs.declared.words.kept.TimerView.{TimerView}
use Rattle.pq_timers.specs.Words.{TimersSeen}
use Rattle.pq_timers.specs.WordRules.{IsTimers, dealt_one, one_part}
use Rattle.pq_timers.proofs.Deals.{deals}
use Rattle.pq_timers.proofs.words.table.TimerTable.deal.Goals as goal

pub split_seat-seat-requires : goal.split_seat-seat-requires
split_seat-seat-requires c = let wide = c.self.invariant.0 in (
  c.requires.own ∙ sym (ap (λ (z : TimersSeen). z.table) c.self.view_is),
  omega arith,
  subst (λ (m : Me (Unit {0}) TimerView). Splits (IsTimers c.self.inside.table.shared.key) c.args.dealer.now.id m.0 (dealt_one m.0) (one_part m.0)) (sym c.requires.parts.1)
      (deals c.self.inside.table.shared.key c.args.dealer.now.id c.args.self.now.limits c.requires.parts.0),
)
