use Rattle.std.proofs.Common.{◌≡◌, ℕ, ◌≤◌, [], ◌∷◌}
use Rattle.pq_seats.specs.Seats.{Sits}
use Rattle.pq_hunt.specs.declared.nodes.Node.TheVariants.{Hole}
use Rattle.pq_nodes.specs.Views.{guard}
use Rattle.pq_hunt.specs.HeldPosts.{Leaves}
use Rattle.pq_hunt.proofs.sift.sift.Given as goal

abbrev pub invariant-loop : goal.invariant-loop
invariant-loop g l = record {
  seat : Sits l.table.table.shared.table_id l.table.table.shared.key l.pass.number l.pass.lanes l.pass.seat;
  number : l.pass.number ≡ l.initial.pass.number;
  lanes : l.pass.lanes ≡ l.initial.pass.lanes;
  id : l.pass.seat.id ≡ l.initial.pass.seat.id;
  hole : (1 ≤ l.hole) × (l.hole ≤ l.table.table.shared.key.capacity);
  gate : goal.F-IsAlwaysCallable g l.below_root;
  holds : (word : ℕ) × Leaves l.initial.pass.seat.me.0 l.pass.seat.me.0 (guard l.hole word (Hole l.hand) ∷ []);
}
