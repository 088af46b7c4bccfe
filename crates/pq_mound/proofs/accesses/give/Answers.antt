use Rattle.std.proofs.Common.{arith}
use Rattle.pq_mound.proofs.Moves.{may_give}
use Rattle.pq_mound.proofs.accesses.give.Goals as goal

pub store-requires : goal.store-requires
store-requires c =
    let k = c.args.table.now.table.shared.key in let me = c.args.pass.now.seat.me in
    let id = c.args.pass.now.seat.id in let own = c.requires.own in
    let slots = c.args.table.now.table.shared.table_id.slots in let size = c.args.table.now.sized.0 in
    let words = c.requires.table.words in let seated = own.seated.0 in let named = own.named in
    let holds = c.requires.holds in (
      own.table,
      omega arith,
      may_give k slots id me holds.0 _ (λ z. omega arith)
          c.requires.held holds.1 holds.3 (let is = holds.2 in omega arith),
    )
