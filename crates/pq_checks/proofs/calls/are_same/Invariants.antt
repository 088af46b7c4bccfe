-- The entries before this place are the same.
use Rattle.std.proofs.Common.{◌≡◌, take}
use Rattle.pq_checks.proofs.calls.are_same.Given as goal

abbrev pub invariant-loop-place : goal.invariant-loop-place
invariant-loop-place l = take l.place l.xs ≡ take l.place l.ys
