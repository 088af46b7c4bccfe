use Rattle.pq_cli.proofs.Ending.{answered_whole, completed, faults_told}
use Rattle.pq_cli.proofs.running.run_still.Goals as goal

pub returns-clause-ran : goal.returns-clause-ran
returns-clause-ran g c = record { status = c.run_still_words.result; ran = c.run_still_words.ensures; reported = c.report.ensures }

pub returns-clause-answered : goal.returns-clause-answered
returns-clause-answered g c = answered_whole _ _ _ _ _ _ c.run_still_words.ensures c.report.ensures

pub returns-clause-complete : goal.returns-clause-complete
returns-clause-complete g c = completed _ _ _ _ _ _ c.run_still_words.ensures c.report.ensures

pub returns-clause-told : goal.returns-clause-told
returns-clause-told g c = faults_told _ _ _ _ _ _ c.run_still_words.ensures c.report.ensures
