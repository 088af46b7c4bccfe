-- At first the seat has read nothing more.
use Rattle.std.proofs.Common.{refl, arith}
use Rattle.pq_timers.proofs.words.table.TimerTable.wait_until_set.Goals as goal

pub loop-init : goal.loop-init
loop-init g c = (refl, refl, record { number = c.args.seat.now.kept.state_of; word = c.args.seat.now.kept.state_word; reads = c.args.seat.now.kept.reads; more = omega arith; is = refl })
