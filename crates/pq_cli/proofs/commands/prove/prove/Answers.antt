use Rattle.pq_cli.proofs.commands.prove.prove.Goals as goal

pub returns : goal.returns
returns c = c.proved.ensures c.args.limits c.args.bytes.now c.in_ok-knapsack.ensures c.in_ok-choice.ensures
