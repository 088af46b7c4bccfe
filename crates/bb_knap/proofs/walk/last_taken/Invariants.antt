use Rattle.std.proofs.Common.{◌≡◌, ℕ, ◌<◌, ◌≤◌, false, length, get_or}
use Rattle.bb_knap.proofs.walk.last_taken.Given as goal

-- from the place on, the path takes nothing
abbrev pub invariant-loop-place : goal.invariant-loop-place
invariant-loop-place l = (k : ℕ) → l.place ≤ k → k < length l.path → get_or l.path k false ≡ false
