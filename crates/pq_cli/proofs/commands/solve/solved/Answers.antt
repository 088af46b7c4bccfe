use Rattle.std.proofs.Common.{refl}
use Rattle.pq_cli.proofs.commands.solve.solved.Goals as goal

pub returns : goal.returns
returns g c = λ limits bytes reads planned. (
  tt,
  (
    refl,
    record {
      solution = record {
        instance = c.args.problem.now;
        plan = c.args.plan.now;
        reads = reads;
        best = planned.0;
        written = c.in_ok-text.ensures;
      };
      room = planned.1;
    },
  ),
  tt,
)
