-- A pass still sits at its table once its seat has another post.
use Rattle.std.proofs.Common.{◌≡◌, ℕ, ◌≤◌, List, length, arith, ap, ◌∙◌, sym, subst, refl}
use Rattle.atomic_table.specs.Table.{Me}
use Rattle.atomic_table.specs.Seated.{TableId}
use Rattle.atomic_table.specs.declared.shared.Seat.{Seat}
use Rattle.pq_model.specs.declared.passes.Lane.{Lane}
use Rattle.pq_seats.specs.declared.views.Limits.{Limits}
use Rattle.pq_seats.specs.declared.views.Post.{Post}
use Rattle.pq_seats.specs.declared.views.View.{View}
use Rattle.pq_seats.specs.Views.{HasFirst, with_post}
use Rattle.pq_seats.specs.declared.shared.Shared.{Shared}
use Rattle.pq_seats.specs.Seats.{Sits}
use Rattle.pq_hunt.specs.declared.views.HuntPart.{HuntPart}

abbrev M : Type 0
M = Me (Unit {0}) (View HuntPart)

pub sits_on : (z : TableId) (k : Limits) (number lanes : ℕ) (seat seat' : Seat (Unit {0}) (View HuntPart)) (p : Post HuntPart) → Sits z k number lanes seat
    → seat'.table_id ≡ seat.table_id → p.number ≡ seat.me.0.post.number → seat'.me ≡ (with_post seat.me.0 p, seat.me.1) → Sits z k number lanes seat'
sits_on z k number lanes seat seat' p f table same is = record {
  table = table ∙ f.table;
  limits = ap (λ (m : M). m.0.limits) is ∙ f.limits;
  empty = ap (λ (m : M). m.1) is ∙ f.empty;
  seated = f.seated;
  named = f.named ∙ sym (ap (λ (m : M). m.0.post.number) is ∙ same);
  first = subst (λ (l : List Lane). HasFirst number l) (sym (ap (λ (m : M). m.0.lanes) is)) f.first;
  counted = f.counted ∙ sym (ap (λ (m : M). length m.0.lanes) is);
}

pub sits_still : (z : TableId) (k : Limits) (number lanes : ℕ) (seat seat' : Seat (Unit {0}) (View HuntPart)) → Sits z k number lanes seat
    → seat'.table_id ≡ seat.table_id → seat'.me ≡ seat.me → Sits z k number lanes seat'
sits_still z k number lanes seat seat' f table is = sits_on z k number lanes seat seat' seat.me.0.post f table refl is

-- a pass of a table has a number that an owner may have
pub within : {R O : Type 0} (q : Shared R O) (number : ℕ) {lanes : ℕ} {seat : Seat (Unit {0}) (View O)} → Sits q.table.shared.table_id q.table.shared.key number lanes seat → number ≤ 16
within q number own = let seats = q.seated in let most = seats.1.1 in let is = seats.0 in let high = own.seated.1 in omega arith
