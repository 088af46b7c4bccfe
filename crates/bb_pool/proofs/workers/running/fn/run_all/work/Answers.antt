use Rattle.bb_pool.proofs.workers.running.fn.run_all.work.Goals as goal

pub returns : goal.returns
returns g c = record { ended = (c.run.ensures.own, c.run.ensures.together _ _ c.requires.ready.2) }
