use Rattle.pq_cli.proofs.commands.solve.solve.Goals as goal

pub returns : goal.returns
returns g c = c.solved.ensures c.args.limits c.args.bytes.now c.in_ok-problem.ensures c.in_ok-plan.ensures
