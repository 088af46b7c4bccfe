use Rattle.std.proofs.Common.{◌≡◌, ◌++◌, drop}
use Rattle.bb_onemach.specs.Visits.{rows_visits, visits}
use Rattle.bb_onemach.proofs.visit.visits_of.Given as goal

-- what is there and what comes of the jobs that are left make up the whole
abbrev pub invariant-loop-job : goal.invariant-loop-job
invariant-loop-job l = l.row.items ++ rows_visits l.machine l.job (drop l.job l.shop.rows) ≡ visits l.shop l.machine
