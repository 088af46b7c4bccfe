use Rattle.std.proofs.Common.{◌≡◌, take}
use Rattle.std.specs.Prelude.{filter}
use Rattle.bb_shop.specs.Working.{next_at}
use Rattle.bb_onemach.specs.Branching.{competes}
use Rattle.bb_onemach.proofs.branching.competing.Given as goal

-- those of the jobs so far that compete
abbrev pub invariant-loop-job : goal.invariant-loop-job
invariant-loop-job l = l.jobs.items ≡ filter (competes (next_at l.shop l.node) l.critical) (take l.job-index l.job-items)
