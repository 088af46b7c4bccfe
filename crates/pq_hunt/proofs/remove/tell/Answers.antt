use Rattle.std.proofs.Common.{◌+◌, ap}
use Rattle.pq_words.specs.declared.heap_words.Tag.{Tag}
use Rattle.pq_hunt.specs.Words.{node_with}
use Rattle.pq_hunt.proofs.Keeping.Leaves.{may_leave}
use Rattle.pq_hunt.proofs.remove.tell.Goals as goal

pub leave_letter-requires-clause-owed : goal.leave_letter-requires-clause-owed
leave_letter-requires-clause-owed c = c.requires.owed c.args.word.owner c.args.word.entry (ap (λ (z : Tag). node_with z c.args.word.owner c.args.word.entry) c.in-Busy.is)

pub leave_letter-requires-clause-allowed : goal.leave_letter-requires-clause-allowed
leave_letter-requires-clause-allowed c = may_leave c.args.table.now.table.shared.key c.args.pass.now.seat.id c.args.pass.now.seat.me.0 c.args.word.owner (c.args.place + 1)
    (c.requires.owed c.args.word.owner c.args.word.entry (ap (λ (z : Tag). node_with z c.args.word.owner c.args.word.entry) c.in-Busy.is))
