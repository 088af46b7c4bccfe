use Rattle.std.proofs.Common.{◌≡◌, ◌+◌, ◌-◌}
use Rattle.pq_io.proofs.Binds.{with_prefix}
use Rattle.inst_text.specs.Shop.{row_time, line_operations_at}
use Rattle.inst_text.proofs.shop.reading.next_operations.Given as goal

abbrev pub invariant-loop : goal.invariant-loop
invariant-loop l = record {
  left : l.room + row_time l.row.items ≡ l.fn.room;
  line : l.words.number ≡ l.fn.words.number;
  so_far : with_prefix l.row.items (line_operations_at l.fn.words.number (l.machines - l.counter) l.machines l.room l.words.words) ≡ line_operations_at l.fn.words.number l.machines l.machines l.fn.room l.fn.words.words;
}
