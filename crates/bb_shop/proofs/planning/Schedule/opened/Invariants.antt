use Rattle.std.proofs.Common.{◌≡◌, [], map, replicate}
use Rattle.bb_shop.proofs.planning.Schedule.opened.Given as goal

abbrev pub invariant-loop-job : goal.invariant-loop-job
invariant-loop-job l = map (λ row. row.items) l.starts.items ≡ replicate l._job []
