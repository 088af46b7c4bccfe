use Rattle.std.proofs.Common.{ap}
use Rattle.pq_words.specs.Letters.{letter_number}
use Rattle.pq_seats.specs.declared.views.Post.{Post}
use Rattle.pq_spot.specs.declared.views.SpotPart.{SpotPart}
use Rattle.pq_spot.proofs.Allows.{may_leave}
use Rattle.pq_spot.proofs.helps.tell.Goals as goal

pub leave_letter-requires-clause-allowed : goal.leave_letter-requires-clause-allowed
leave_letter-requires-clause-allowed c = may_leave c.args.table.now.table.shared.key c.args.pass.now.seat.id c.args.pass.now.seat.me.0 c.args.owner (letter_number c.args.letter)
    (ap (λ (p : Post SpotPart). p.owed) c.requires.owed)
