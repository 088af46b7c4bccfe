use Rattle.pq_cli.proofs.Ending.{made_run}
use Rattle.pq_cli.proofs.running.run_still_words.Goals as goal

pub returns-in-Ok : goal.returns-in-Ok
returns-in-Ok g c = made_run _ c.in-Ok.command c.answer_still.result _ _ _ c.in-Ok.ensures.exact c.answer_still.ensures.answers c.answer_still.ensures.stops c.write_made.ensures
