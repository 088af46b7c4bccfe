-- The law is a lemma on the replay of a drill.
use Rattle.pq_lanes.proofs.Drills.{drill_leaves_nothing}
use Rattle.pq_lanes.proofs.laws.drills_leave_nothing.Goals as goal

pub returns : goal.returns
returns c = λ size script marks drill trace. drill_leaves_nothing size script marks drill trace
