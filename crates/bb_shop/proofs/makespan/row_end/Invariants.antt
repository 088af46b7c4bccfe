use Rattle.std.proofs.Common.{◌≡◌, max, length, drop}
use Rattle.bb_shop.specs.Plans.{row_end}
use Rattle.bb_shop.proofs.makespan.row_end.Given as goal

-- the end so far and those of the operations that are left make up the row's
abbrev pub invariant-loop-operation : goal.invariant-loop-operation
invariant-loop-operation l = max l.end (row_end (drop (length l.yielded) l.row) (drop (length l.yielded) l.times)) ≡ row_end l.row l.times
