use Rattle.std.proofs.Common.{◌≡◌, ◌-◌}
use Rattle.pq_io.proofs.Binds.{with_prefix}
use Rattle.inst_text.specs.Plans.{line_starts_on}
use Rattle.inst_text.proofs.plan.schedules.next_start_times.Given as goal

abbrev pub invariant-loop : goal.invariant-loop
invariant-loop l = record {
  line : l.words.number ≡ l.fn.words.number;
  so_far : with_prefix l.row.items (line_starts_on l.fn.words.number (l.count - l.counter) l.words.words) ≡ line_starts_on l.fn.words.number l.count l.fn.words.words;
}
