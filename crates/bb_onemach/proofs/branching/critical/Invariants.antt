use Rattle.std.proofs.Common.{◌≡◌, drop}
use Rattle.bb_shop.specs.Working.{IsLeftAt, next_at}
use Rattle.bb_onemach.specs.Branching.{soonest, critical}
use Rattle.bb_onemach.proofs.branching.critical.Given as goal

-- the soonest so far, and of it and the jobs that are left
abbrev pub invariant-loop-job : goal.invariant-loop-job
invariant-loop-job l = record {
  at : l.soonest ≡ next_at l.shop l.node l.critical;
  whole : soonest (next_at l.shop l.node) l.critical (drop l.job-index l.jobs) ≡ critical (next_at l.shop l.node) l.jobs;
  left : IsLeftAt l.shop l.node l.critical;
}
