-- So many seats as were given, and the other parts with the seat that gives them.
use Rattle.std.proofs.Common.{◌≡◌, ◌-◌, [], replicate}
use Rattle.bb_shared.specs.Stores.{new_store_seat}
use Rattle.bb_shared.specs.StoreRules.{giver}
use Rattle.bb_shared.proofs.store.nodes.Store.deal_all.Given as goal

abbrev pub invariant-loop : goal.invariant-loop
invariant-loop g l = (l.dealer.table_id ≡ l.self) × (l.dealer.me ≡ (giver l.seats (l.seats - l.counter), []))
    × (l.all.items ≡ replicate l.counter (new_store_seat l.self l.seats))
