use Rattle.std.proofs.Common.{take}
use Rattle.pq_model.specs.declared.marks.Act.TheVariants.{Insert}
use Rattle.pq_model.specs.History.{mark, left}
use Rattle.pq_model.proofs.Replays.{IsLegal-take}
use Rattle.pq_api.proofs.Replayed.{size_bounded, step_there, full_exactly}
use Rattle.pq_api.proofs.laws.full_with_one_seat.Goals as goal

pub returns : goal.returns
returns c = λ capacity place seat history e reply legal is. full_exactly capacity (left (take place history)) e reply
    (size_bounded 1 capacity (take place history) (IsLegal-take 1 capacity place history legal)) (step_there 1 capacity place history (mark seat (Insert e) reply) legal is)
