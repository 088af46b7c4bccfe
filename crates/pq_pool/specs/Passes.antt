-- The passes that make the pool's calls, before and after.
use Rattle.std.specs.Prelude.{◌≡◌, ℕ, Contains}
use Rattle.atomic_table.specs.Seated.{TableId}
use Rattle.atomic_table.specs.declared.shared.Seat.{Seat}
use Rattle.pq_seats.specs.declared.views.Limits.{Limits}
use Rattle.pq_seats.specs.declared.views.View.{View}
use Rattle.pq_seats.specs.declared.shared.Shared.{Shared}
use Rattle.pq_seats.specs.declared.shared.SeatPass.{SeatPass}
use Rattle.pq_seats.specs.Seats.{Sits}
use Rattle.pq_pool.specs.declared.views.PoolView.{PoolView}
use Rattle.pq_pool.specs.Layout.{builder_word}
use Rattle.pq_pool.specs.States.{Agrees}
use Rattle.pq_pool.specs.Parts.{PoolPart, pool_view, ChangesPool}
use Rattle.pq_pool.specs.PoolLaws.{NamesAll}

module _ {O : Type 0} (P : PoolPart O) (z : TableId) (k : Limits) where
  -- A pass at this table, under these limits, that holds the builder's word
  pub record SeatBuilds (number lanes : ℕ) (seat : Seat (Unit {0}) (View O)) : Type 0 where
    pub sits : Sits z k number lanes seat
    pub holds : Contains seat.me.0.post.locks builder_word
    pub all : NamesAll k (pool_view P seat.me.0)

  -- It still does, and nothing but the pool's part of its view has changed
  pub record SeatStillBuilds (number lanes number' lanes' : ℕ) (seat seat' : Seat (Unit {0}) (View O)) : Type 0 where
    pub pass : SeatBuilds number' lanes' seat'
    pub same_number : number' ≡ number
    pub same_lanes : lanes' ≡ lanes
    pub id : seat'.id ≡ seat.id
    pub rest : ChangesPool P seat.me.0 seat'.me.0

  -- A pass at this table, of which nothing but the pool's part of its view has changed
  pub record SeatStillSits (number lanes number' lanes' : ℕ) (seat seat' : Seat (Unit {0}) (View O)) : Type 0 where
    pub sits : Sits z k number' lanes' seat'
    pub same_number : number' ≡ number
    pub same_lanes : lanes' ≡ lanes
    pub id : seat'.id ≡ seat.id
    pub rest : ChangesPool P seat.me.0 seat'.me.0

module _ {R O : Type 0} (P : PoolPart O) where
  -- the pool's part of what a pass's seat knows
  abbrev pub pool_of : SeatPass R O → PoolView
  pool_of p = P.view_of p.seat.me.0.post.own

  -- the pass is one of this table, and holds the builder's word
  abbrev pub HoldsBuilder : Shared R O → SeatPass R O → Type 0
  HoldsBuilder q p = SeatBuilds P q.table.shared.table_id q.table.shared.key p.number p.lanes p.seat

  -- It still does. Nothing but the pool's part of its view has changed
  abbrev pub StaysBuilder : Shared R O → SeatPass R O → SeatPass R O → Type 0
  StaysBuilder q p p' =
      SeatStillBuilds P q.table.shared.table_id q.table.shared.key p.number p.lanes p'.number p'.lanes p.seat p'.seat

  -- The pass is still one of this table. Nothing but the pool's part of its view has changed
  abbrev pub StaysSeated : Shared R O → SeatPass R O → SeatPass R O → Type 0
  StaysSeated q p p' =
      SeatStillSits P q.table.shared.table_id q.table.shared.key p.number p.lanes p'.number p'.lanes p.seat p'.seat

  -- what it has written is as it counts
  abbrev pub AgreesAt : Shared R O → SeatPass R O → Type 0
  AgreesAt q p = Agrees q.seats (P.view_of p.seat.me.0.post.own).stored (P.view_of p.seat.me.0.post.own).counted
