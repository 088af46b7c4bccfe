use Rattle.std.proofs.Common.{◌≤◌}
use Rattle.pq_seats.specs.Passes.{limits_of, view_of, Belongs, IsSamePass}
use Rattle.pq_nodes.specs.Passes.{ComesTo}
use Rattle.pq_hunt.specs.HeldPosts.{in_flight}
use Rattle.pq_hunt.proofs.climb.climb.Given as goal

abbrev pub invariant-loop : goal.invariant-loop
invariant-loop g l = record {
  own : Belongs l.table l.pass;
  same : IsSamePass l.initial.pass l.pass;
  low : 1 ≤ l.node;
  high : l.node ≤ (limits_of l.table).capacity;
  flies : ComesTo (view_of l.initial.pass) (view_of l.pass) (in_flight l.initial.pass.number l.e l.node);
}
