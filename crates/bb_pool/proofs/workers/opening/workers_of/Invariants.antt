-- there is a worker for each pass so far
use Rattle.std.proofs.Common.{◌≡◌, ◌+◌, length}
use Rattle.std.specs.Prelude.{replicate}
use Rattle.pq_model.specs.Passes.{fresh}
use Rattle.pq_api.specs.Answers.{EachAt}
use Rattle.bb_shared.specs.Stores.{new_store_seat}
use Rattle.bb_shared.specs.Controls.{new_control_seat}
use Rattle.bb_pool.specs.Together.{doing, IsOneOf, IsNew}
use Rattle.bb_pool.proofs.Several.Each.{EachFrom}
use Rattle.bb_pool.proofs.workers.opening.workers_of.Given as goal

abbrev pub invariant-loop-pass : goal.invariant-loop-pass
invariant-loop-pass g l = record {
  count : length l.workers.items + length l.pass-iterator.rest.items ≡ length l.fn.passes.items;
  new : EachAt (λ k w. IsOneOf g.Q.SharedQueue.belongs l.shared w × IsNew (length l.fn.passes.items) (k + 1) (doing g.Q.SharedQueue.known w)) l.workers.items;
  rest : EachFrom (length l.workers.items) (λ k p. g.Q.SharedQueue.belongs l.shared.queue p × (g.Q.SharedQueue.known p ≡ fresh (k + 1))) l.pass-iterator.rest.items;
  seats : l.seats.rest.items ≡ replicate (length l.pass-iterator.rest.items) (new_store_seat l.shared.store (length l.fn.passes.items));
  controls : l.controls.rest.items ≡ replicate (length l.pass-iterator.rest.items) (new_control_seat l.shared.control (length l.fn.passes.items));
}
