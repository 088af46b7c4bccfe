use Rattle.std.proofs.Common.{◌≡◌, max, length, drop}
use Rattle.bb_shop.specs.Plans.{rows_end}
use Rattle.bb_shop.proofs.makespan.makespan_of.Given as goal

-- the end so far and those of the rows that are left make up the makespan
abbrev pub invariant-loop-row : goal.invariant-loop-row
invariant-loop-row l = max l.end (rows_end (drop (length l.yielded) l.jobs.rows) (drop (length l.yielded) l.starts)) ≡ rows_end l.jobs.rows l.starts
