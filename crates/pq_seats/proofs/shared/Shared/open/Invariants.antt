use Rattle.std.proofs.Common.{◌≡◌, ◌+◌, ◌-◌, [], length}
use Rattle.pq_seats.specs.Seats.{Sits, dealt, newcomer}
use Rattle.pq_api.specs.Answers.{EachAt}
use Rattle.pq_seats.proofs.shared.Shared.open.Given as goal

abbrev pub invariant-loop-i : goal.invariant-loop-i
invariant-loop-i g l = let R = g.R.SeatRule.rule in let k = l.shared.table.shared.key in record {
  dealer : l.dealer.table_id ≡ l.shared.table.shared.table_id;
  key : k ≡ record { capacity = l.capacity; seats = l.seats; words = length l.words.items };
  more : l.dealer.me ≡ (dealt R k (l.i + 1) (l.seats - l.i), []);
  many : length l.passes.items ≡ l.i;
  passes : EachAt (λ i p. Sits l.shared.table.shared.table_id k p.number p.lanes p.seat × (p.seat.me.0 ≡ newcomer R k (i + 1))) l.passes.items;
}
