-- The law is two lemmas on the lanes of made scripts.
use Rattle.pq_lanes.proofs.MadeDrills.{made_lanes_drill, made_lanes_are}
use Rattle.pq_lanes.proofs.laws.made_scripts_are_drills.Goals as goal

pub returns : goal.returns
returns c = λ seed lanes size. (made_lanes_drill seed lanes size, made_lanes_are seed lanes size)
