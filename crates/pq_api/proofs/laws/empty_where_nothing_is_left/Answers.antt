use Rattle.std.proofs.Common.{take}
use Rattle.pq_model.specs.declared.marks.Act.TheVariants.{Remove}
use Rattle.pq_model.specs.History.{mark, left}
use Rattle.pq_api.proofs.Replayed.{step_there, empty_exactly}
use Rattle.pq_api.proofs.laws.empty_where_nothing_is_left.Goals as goal

pub returns : goal.returns
returns c = λ seats capacity place seat history reply legal is. empty_exactly seats capacity (left (take place history)) reply (step_there seats capacity place history (mark seat Remove reply) legal is)
