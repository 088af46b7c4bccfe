-- the commands before this one were run
use Rattle.std.proofs.Common.{◌≡◌, take}
use Rattle.pq_lanes.specs.Lanes.{HasMade}
use Rattle.pq_lanes.proofs.lane.run_lane.Given as goal

abbrev pub invariant-loop-act : goal.invariant-loop-act
invariant-loop-act g l = record {
  own : g.Q.SharedQueue.belongs l.queue l.pass;
  made : HasMade (g.Q.SharedQueue.seats_of l.queue) (g.Q.SharedQueue.capacity_of l.queue) (g.Q.SharedQueue.known l.initial.pass).number
      (take l.act-index l.acts) (g.Q.SharedQueue.known l.pass) l.tape.lane;
  room : l.tape.room ≡ l.initial.tape.room;
}
