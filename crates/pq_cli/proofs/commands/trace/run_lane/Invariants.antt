-- the commands before this one were run
use Rattle.std.proofs.Common.{take}
use Rattle.pq_cli.specs.Tracing.{IsTracing}
use Rattle.pq_cli.proofs.commands.trace.run_lane.Given as goal

abbrev pub invariant-loop-act : goal.invariant-loop-act
invariant-loop-act l = IsTracing l.initial.pass.capacity (take l.act-index l.acts) l.marks.items l.pass
