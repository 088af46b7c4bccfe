-- So many seats as were given, and the other parts with the seat that gives them.
use Rattle.std.proofs.Common.{◌≡◌, ◌-◌, [], replicate}
use Rattle.bb_shared.specs.Controls.{new_told}
use Rattle.bb_shared.specs.ControlRules.{teller}
use Rattle.bb_shared.proofs.control.words.Control.deal_all.Given as goal

abbrev pub invariant-loop : goal.invariant-loop
invariant-loop l = (l.dealer.table_id ≡ l.self) × (l.dealer.me ≡ (teller l.seats (l.seats - l.counter), []))
    × (l.all.items ≡ replicate l.counter (record { control = l.self; kept = new_told l.seats }))
