use Rattle.std.proofs.Common.{◌≡◌, ℕ, subst, arith}
use Rattle.atomic_table.specs.Table.{step, Allows}
use mathlib.Core.Option.{none}
use Rattle.pq_seats.specs.Rules.{Holds}
use Rattle.pq_mound.specs.Layout.{next_word}
use Rattle.pq_mound.specs.Rules.{mound_rule}
use Rattle.pq_mound.specs.Steps as steps
use Rattle.pq_mound.proofs.Moves.{may_store_next}
use Rattle.pq_mound.proofs.accesses.store_next.Goals as goal

pub store-requires : goal.store-requires
store-requires c =
    let k = c.args.table.now.table.shared.key in let me = c.args.pass.now.seat.me in
    let id = c.args.pass.now.seat.id in let own = c.requires.own in
    let slots = c.args.table.now.table.shared.table_id.slots in let size = c.args.table.now.sized.0 in
    let words = c.requires.table.words in let seated = own.seated.0 in let named = own.named in
    let holds = c.requires.holds in let o = holds.0 in let number = holds.2 in let base = c.requires.base.0 in
    let low = c.requires.cell in
    let at : next_word k.capacity o.number ≡ c.next_word.result = omega (arith, c.next_word.ensures) in (
      own.table,
      omega arith,
      subst (λ (z : ℕ). Allows (Holds mound_rule k) slots id me z (λ _. c.args.next)
          (λ _. steps.stores_next (step slots z (c.args.next) 0 none) me (c.args.next))) at
          (may_store_next k slots id me o (c.args.next) (λ z. omega arith) holds.1),
    )
