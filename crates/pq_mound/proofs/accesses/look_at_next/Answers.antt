use Rattle.std.proofs.Common.{◌≡◌, ℕ, subst, arith}
use Rattle.atomic_table.specs.Table.{step, Allows}
use mathlib.Core.Option.{none}
use Rattle.pq_seats.specs.Rules.{Holds}
use Rattle.pq_mound.specs.Layout.{next_word}
use Rattle.pq_mound.specs.Rules.{mound_rule}
use Rattle.pq_mound.specs.Steps as steps
use Rattle.pq_mound.proofs.Moves.{may_look_at_next}
use Rattle.pq_mound.proofs.accesses.look_at_next.Goals as goal

pub load-requires : goal.load-requires
load-requires c =
    let k = c.args.table.now.table.shared.key in let me = c.args.pass.now.seat.me in
    let id = c.args.pass.now.seat.id in let own = c.requires.own in
    let slots = c.args.table.now.table.shared.table_id.slots in let size = c.args.table.now.sized.0 in
    let words = c.requires.table.words in let seated = own.seated.0 in let named = own.named in
    let first = c.requires.first in
    let is = c.requires.base.0 in
    let at : next_word k.capacity c.args.cell ≡ c.next_word.result = omega (arith, c.next_word.ensures) in (
      own.table,
      omega arith,
      subst (λ (z : ℕ). Allows (Holds mound_rule k) slots id me z (λ m. m)
          (steps.looks_at_next (step slots z 0 0 none) me)) at
          (may_look_at_next k slots id me c.args.cell first.0 c.requires.held first.1),
    )
