use Rattle.std.proofs.Common.{refl}
use Rattle.pq_seats.proofs.Dealing.{opens}
use Rattle.pq_seats.proofs.shared.Shared.begin.Goals as goal

pub of_words-requires : goal.of_words-requires
of_words-requires g c = opens g.R.SeatRule.rule _ _ refl c.requires
