use Rattle.std.proofs.Common.{◌≡◌, ℕ, ◌<◌, [], length, get_or, map}
use Rattle.bb_onemach.specs.Working.{IsRow}
use Rattle.bb_onemach.proofs.visit.all_visits.Given as goal

-- a list for each machine so far
abbrev pub invariant-loop-machine : goal.invariant-loop-machine
invariant-loop-machine l = record {
  count : length l.rows.items ≡ l.machine;
  each : (m : ℕ) → m < l.machine → IsRow l.shop m (get_or (map (λ row. row.items) l.rows.items) m []);
}
