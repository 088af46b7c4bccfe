use Rattle.std.proofs.Common.{◌≡◌, ◌++◌, drop}
use Rattle.bb_onemach.specs.Working.{prepared_visits}
use Rattle.bb_onemach.proofs.visit.add_visits.Given as goal

-- what is there and what comes of the operations that are left make up the whole
abbrev pub invariant-loop-step : goal.invariant-loop-step
invariant-loop-step l =
    l.row.items ++ prepared_visits l.machine l.job l.step (drop l.step l.operations) ≡ l.initial.row.items ++ prepared_visits l.machine l.job 0 l.operations
