use Rattle.std.proofs.Common.{◌≡◌, ◌≤◌}
use Rattle.pq_seats.specs.Views.{IsAlike}
use Rattle.pq_seats.specs.Seats.{Sits}
use Rattle.pq_seats.proofs.shared.Shared.lock.Given as goal

abbrev pub invariant-loop : goal.invariant-loop
invariant-loop g l = record {
  seat : Sits l.self.table.shared.table_id l.self.table.shared.key l.pass.number l.pass.lanes l.pass.seat;
  number : l.pass.number ≡ l.initial.pass.number;
  lanes : l.pass.lanes ≡ l.initial.pass.lanes;
  id : l.pass.seat.id ≡ l.initial.pass.seat.id;
  alike : IsAlike l.initial.pass.seat.me.0 l.pass.seat.me.0;
  reads : l.initial.pass.seat.me.0.reads ≤ l.pass.seat.me.0.reads;
}
