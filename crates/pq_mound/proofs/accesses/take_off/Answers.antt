use Rattle.std.proofs.Common.{arith}
use Rattle.pq_mound.proofs.Moves.{may_take_off}
use Rattle.pq_mound.proofs.accesses.take_off.Goals as goal

pub store-requires : goal.store-requires
store-requires c =
    let k = c.args.table.now.table.shared.key in let me = c.args.pass.now.seat.me in
    let id = c.args.pass.now.seat.id in let own = c.requires.own in
    let slots = c.args.table.now.table.shared.table_id.slots in let size = c.args.table.now.sized.0 in
    let words = c.requires.table.words in let seated = own.seated.0 in let named = own.named in
    let first = c.requires.first in (
      own.table,
      omega arith,
      may_take_off k slots id me c.args.cell c.args.next first.0 (λ z. omega arith)
          c.requires.held first.1 c.requires.bare first.2,
    )
