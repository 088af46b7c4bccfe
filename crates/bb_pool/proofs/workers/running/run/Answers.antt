use Rattle.std.proofs.Common.{refl}
use Rattle.bb_pool.proofs.Several.Runs.{run_ended, run_stopped}
use Rattle.bb_pool.proofs.workers.running.run.Goals as goal

pub go_on-requires-clause-counted : goal.go_on-requires-clause-counted
go_on-requires-clause-counted g c κs among = c.requires.together.2.counted

pub go_on-requires-clause-working : goal.go_on-requires-clause-working
go_on-requires-clause-working g c κs among = c.requires.together.2.working c.requires.none

pub go_on-requires-clause-knows : goal.go_on-requires-clause-knows
go_on-requires-clause-knows g c κs among = c.requires.together.2.knows

pub returns-clause-together : goal.returns-clause-together
returns-clause-together g c = λ from to t. let x = t.traced in run_ended c.requires.none c.in-Ok.ensures.ended c.go_on.ensures.knows (x.0, x.1, c.go_on.ensures.traced x.0 x.2) t

pub returns-in-Err-clause-together : goal.returns-in-Err-clause-together
returns-in-Err-clause-together g c = λ from to t. run_stopped c.requires.none c.in-Err.ensures.stopped c.stop.ensures.stop refl refl refl c.go_on.ensures.knows (let x = t.traced in (x.0, x.1, c.go_on.ensures.traced x.0 x.2)) t.numbered
