use Rattle.std.proofs.Common.{arith}
use Rattle.pq_mound.proofs.Moves.{may_look_at_count}
use Rattle.pq_mound.proofs.accesses.look_at_count.Goals as goal

pub load-requires : goal.load-requires
load-requires c =
    let k = c.args.table.now.table.shared.key in let me = c.args.pass.now.seat.me in
    let id = c.args.pass.now.seat.id in let own = c.requires.own in
    let slots = c.args.table.now.table.shared.table_id.slots in let size = c.args.table.now.sized.0 in
    let words = c.requires.table.words in let seated = own.seated.0 in let named = own.named in
    (own.table, omega arith, may_look_at_count k slots id me c.requires.held)
