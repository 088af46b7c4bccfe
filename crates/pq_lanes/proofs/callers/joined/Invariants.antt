-- the passes of the callers so far are joined, and their tapes are put aside
use Rattle.std.proofs.Common.{◌≡◌, ◌+◌, ◌≤◌, ◌++◌, length, map}
use Rattle.std.specs.Prelude.{All}
use Rattle.pq_model.specs.Passes.{lanes, numbers, Knows}
use Rattle.pq_lanes.specs.Lanes.{HasMade, acts_of, on_tapes}
use Rattle.pq_lanes.proofs.Each.{EachFrom}
use Rattle.pq_lanes.proofs.callers.joined.Given as goal

abbrev pub invariant-loop-caller : goal.invariant-loop-caller
invariant-loop-caller g l = record {
  own : g.Q.SharedQueue.belongs l.queue l.pass;
  all : lanes (g.Q.SharedQueue.known l.pass) ++ map (λ c. c.tape.lane) l.caller-iterator.rest.items ≡ map (λ c. c.tape.lane) l.fn.callers.items;
  taped : on_tapes l.tapes.items ≡ lanes (g.Q.SharedQueue.known l.pass);
  knows : Knows (g.Q.SharedQueue.seats_of l.queue) (g.Q.SharedQueue.capacity_of l.queue) (g.Q.SharedQueue.known l.pass);
  below : All (λ n. n ≤ length l.tapes.items) (numbers (g.Q.SharedQueue.known l.pass));
  rest_own : EachFrom (length l.tapes.items) (λ k c. g.Q.SharedQueue.belongs l.queue c.pass) l.caller-iterator.rest.items;
  rest_made : EachFrom (length l.tapes.items) (λ k c. HasMade (g.Q.SharedQueue.seats_of l.queue) (g.Q.SharedQueue.capacity_of l.queue) (k + 1)
      (acts_of (g.Q.SharedQueue.known c.pass).calls) (g.Q.SharedQueue.known c.pass) c.tape.lane) l.caller-iterator.rest.items;
}
