use Rattle.std.proofs.Common.{take}
use Rattle.pq_model.specs.declared.marks.Act.TheVariants.{RemoveBelow}
use Rattle.pq_model.specs.History.{mark, left}
use Rattle.pq_api.proofs.Replayed.{step_there, below_exactly}
use Rattle.pq_api.proofs.laws.below_where_the_least_is.Goals as goal

pub returns : goal.returns
returns c = λ seats capacity place seat limit history reply legal is. below_exactly seats capacity limit (left (take place history)) reply
    (step_there seats capacity place history (mark seat (RemoveBelow limit) reply) legal is)
