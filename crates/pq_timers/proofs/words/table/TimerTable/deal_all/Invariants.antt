-- So many seats as were given, and the other parts with the seat that gives them.
use Rattle.std.proofs.Common.{◌≡◌, ◌-◌, [], replicate}
use Rattle.pq_timers.specs.Words.{new_timer_seat}
use Rattle.pq_timers.specs.WordRules.{giver}
use Rattle.pq_timers.proofs.words.table.TimerTable.deal_all.Given as goal

abbrev pub invariant-loop : goal.invariant-loop
invariant-loop l = (l.dealer.table_id ≡ l.self.table) × (l.dealer.me ≡ (giver l.self.limits (l.self.limits.seats - l.counter), []))
    × (l.all.items ≡ replicate l.counter (new_timer_seat l.self))
