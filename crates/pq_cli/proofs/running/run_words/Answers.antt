use Rattle.pq_cli.proofs.Ending.{made_run}
use Rattle.pq_cli.proofs.running.run_words.Goals as goal

pub returns-in-Ok : goal.returns-in-Ok
returns-in-Ok g c = made_run _ c.in-Ok.command c.answer.result _ _ _ c.in-Ok.ensures.exact c.answer.ensures.answers c.answer.ensures.stops c.write_made.ensures
