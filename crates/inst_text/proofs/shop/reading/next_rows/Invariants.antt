use Rattle.std.proofs.Common.{◌≡◌, ◌-◌, ◌≤◌, map}
use Rattle.pq_io.proofs.Binds.{with_prefix}
use Rattle.inst_text.specs.Limits.{max_total}
use Rattle.inst_text.specs.Shop.{rows_at}
use Rattle.inst_text.proofs.shop.reading.next_rows.Given as goal

abbrev pub invariant-loop : goal.invariant-loop
invariant-loop l = record {
  room : l.room ≤ max_total;
  so_far : with_prefix (map (λ row. row.items) l.rows.items) (rows_at (l.jobs - l.counter) l.machines l.room l.text) ≡ rows_at l.jobs l.machines max_total l.fn.text;
}
