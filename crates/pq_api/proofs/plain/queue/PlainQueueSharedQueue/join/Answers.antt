use Rattle.pq_api.proofs.Alone.{not_apart}
use Rattle.pq_api.proofs.plain.queue.PlainQueueSharedQueue.join.Goals as goal

pub unreachable-requires : goal.unreachable-requires
unreachable-requires c = not_apart c.args.into.now.known c.args.other.known c.shares_number.ensures c.requires.apart
