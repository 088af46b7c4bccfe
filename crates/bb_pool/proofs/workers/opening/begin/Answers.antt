use Rattle.std.proofs.Common.{refl, arith}
use Rattle.bb_pool.proofs.Several.Runs.{root_together, together_more, run_stopped}
use Rattle.bb_pool.proofs.workers.opening.begin.Goals as goal

pub returns-in-Ok-clause-begun : goal.returns-in-Ok-clause-begun
returns-in-Ok-clause-begun g c = λ _. let r = c.in-Ok.ensures.rooted in root_together r.0 c.insert_root.ensures.knows r.1 c.insert_root.ensures.traced c.requires.begun

pub returns-in-Ok-clause-together : goal.returns-in-Ok-clause-together
returns-in-Ok-clause-together g c = let r = c.in-Ok.ensures.rooted in together_more (omega arith) (root_together r.0 c.insert_root.ensures.knows r.1 c.insert_root.ensures.traced c.requires.begun)

pub returns-in-Err-clause-together : goal.returns-in-Err-clause-together
returns-in-Err-clause-together g c = run_stopped c.requires.begun.none c.in-Err.ensures.stopped c.stop.ensures.stop refl refl refl c.insert_root.ensures.knows c.insert_root.ensures.traced c.requires.begun.numbered
