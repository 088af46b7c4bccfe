-- A pass and its table, as contracts see them.
use Rattle.std.specs.Prelude.{◌≡◌}
use Rattle.pq_model.specs.declared.passes.Known.{Known}
use Rattle.pq_model.specs.Passes.{Knows}
use Rattle.pq_seats.specs.declared.views.Limits.{Limits}
use Rattle.pq_seats.specs.declared.views.View.{View}
use Rattle.pq_seats.specs.declared.shared.Shared.{Shared}
use Rattle.pq_seats.specs.declared.shared.SeatPass.{SeatPass}
use Rattle.pq_seats.specs.Views.{known_of}
use Rattle.pq_seats.specs.Seats.{Sits}

module _ {R O : Type 0} where
  -- what the table was opened for
  abbrev pub limits_of : Shared R O → Limits
  limits_of q = q.table.shared.key

  -- the view of the pass's seat, and what the pass means
  abbrev pub view_of : SeatPass R O → View O
  view_of p = p.seat.me.0

  abbrev pub known : SeatPass R O → Known
  known p = known_of p.seat.me.0

  -- the pass is one of this table
  abbrev pub Belongs : Shared R O → SeatPass R O → Type 0
  Belongs q p = Sits q.table.shared.table_id q.table.shared.key p.number p.lanes p.seat

  -- it has the same number, seat and number of lanes as before
  abbrev pub IsSamePass : SeatPass R O → SeatPass R O → Type 0
  IsSamePass p p' = (p'.number ≡ p.number) × (p'.lanes ≡ p.lanes) × (p'.seat.id ≡ p.seat.id)

  -- it knows a legal history that holds its calls
  abbrev pub IsInformed : Shared R O → SeatPass R O → Type 0
  IsInformed q p = Knows q.table.shared.key.seats q.table.shared.key.capacity (known_of p.seat.me.0)
