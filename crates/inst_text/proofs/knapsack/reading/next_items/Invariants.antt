use Rattle.std.proofs.Common.{◌≡◌, ◌-◌, ◌≤◌}
use Rattle.pq_io.proofs.Binds.{with_prefix}
use Rattle.inst_text.specs.Limits.{max_total}
use Rattle.inst_text.specs.Knapsack.{items_at}
use Rattle.inst_text.proofs.knapsack.reading.next_items.Given as goal

abbrev pub invariant-loop : goal.invariant-loop
invariant-loop l = record {
  room : l.room ≤ max_total;
  so_far : with_prefix l.items.items (items_at (l.count - l.counter) l.room l.text) ≡ items_at l.count max_total l.fn.text;
}
