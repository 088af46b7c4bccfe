-- Options of tickets, and a ticket that is picked only where something is true.
use Rattle.std.proofs.Common.{◌≡◌, ℕ, Bool, true, false, eqb, cond, refl}
use Rattle.std.specs.Prelude.{Some, None}
use Rattle.pq_numbers.proofs.Counts.{one_if}
use Rattle.pq_timers.specs.declared.ticket.Ticket.{Ticket}
use Rattle.pq_timers.specs.WordRules.{times_in}

pub false_true : false ≡ true → ⊥
false_true e = absurd (cc)

pub same_some : (t u : Ticket) → Some t ≡ Some u → t ≡ u
same_some t u e = cc

-- a ticket that is picked only where this is true
pub picked : (x : ℕ) (t : Ticket) (b : Bool) → times_in x (cond b (Some t) None) ≡ cond b (one_if (eqb t.number x)) 0
picked x t true = refl
picked x t false = refl

pub none_some : (t : Ticket) → None ≡ Some t → ⊥
none_some t e = absurd (cc)

pub picked_is : (b : Bool) (t u : Ticket) → cond b (Some t) None ≡ Some u → t ≡ u
picked_is true t u e = cc
picked_is false t u e = absurd (cc)
