use Rattle.std.proofs.Common.{◌-◌, ◌*◌, [], length}
use Rattle.bb_pool.specs.Underway.{state_of, IsUnderway}
use Rattle.bb_pool.proofs.plain.go_on.Given as goal

abbrev pub invariant-loop-children : goal.invariant-loop-children
invariant-loop-children g l = IsUnderway (g.P.Problem.meaning l.problem) l.nodes (g.C.OnePass.seat l.fn.search.pass).capacity (state_of g.C.OnePass.seat l.search) []

abbrev pub decreases-loop-children : goal.decreases-loop-children
decreases-loop-children g l = 2 * l.nodes - length (g.C.OnePass.seat l.search.pass).known.calls
