-- there is a caller for each pass so far
use Rattle.std.proofs.Common.{◌≡◌, ◌+◌, ◌≤◌, [], length}
use Rattle.std.specs.Prelude.{slice_index_or}
use Rattle.pq_model.specs.Passes.{lane, fresh}
use Rattle.pq_api.specs.Answers.{EachAt}
use Rattle.pq_lanes.proofs.Each.{EachFrom}
use Rattle.pq_lanes.proofs.callers.callers_of.Given as goal

abbrev pub invariant-loop-pass : goal.invariant-loop-pass
invariant-loop-pass g l = record {
  count : length l.script ≡ length l.callers.items + length l.pass-iterator.rest.items;
  new : EachAt (λ k c. g.Q.SharedQueue.belongs l.queue c.pass × (g.Q.SharedQueue.known c.pass ≡ fresh (k + 1))) l.callers.items;
  tapes : EachAt (λ k c. (c.tape.lane ≡ lane (k + 1) []) × (length (slice_index_or l.script k []) ≤ c.tape.room)) l.callers.items;
  rest : EachFrom (length l.callers.items) (λ k p. g.Q.SharedQueue.belongs l.queue p × (g.Q.SharedQueue.known p ≡ fresh (k + 1))) l.pass-iterator.rest.items;
}
