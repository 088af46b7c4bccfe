use Rattle.pq_pool.proofs.BenchRests.{no_lock}
use Rattle.pq_tests.proofs.tests.pool.pins_once.Goals as goal

pub pin-requires-clause-no_lock : goal.pin-requires-clause-no_lock
pin-requires-clause-no_lock c = no_lock c.args.pass.now.seat.me.0.post c.requires.bare
