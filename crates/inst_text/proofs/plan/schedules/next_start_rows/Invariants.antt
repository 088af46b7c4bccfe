use Rattle.std.proofs.Common.{◌≡◌, ◌-◌, map}
use Rattle.pq_io.proofs.Binds.{with_prefix}
use Rattle.inst_text.specs.Plans.{start_rows_at}
use Rattle.inst_text.proofs.plan.schedules.next_start_rows.Given as goal

abbrev pub invariant-loop : goal.invariant-loop
invariant-loop l = with_prefix (map (λ row. row.items) l.rows.items) (start_rows_at (l.jobs - l.counter) l.count l.text) ≡ start_rows_at l.jobs l.count l.fn.text
