use Rattle.std.specs.Mem.Slots.{slots_items}
use Rattle.pq_hunt.proofs.Ends.Ending.{says_all, shown}
use Rattle.pq_hunt.proofs.queue.HuntHeap.finish.Goals as goal

pub gather-requires-clause-says : goal.gather-requires-clause-says
gather-requires-clause-says g c = let e = c.close-closed.ensures.ended in let q = c.args.self in
    (e.tied.nodes, says_all q.table.table.shared.key c.args.pass.seat.me.0 (slots_items c.close-closed.result.words) e q.capacity q.sized)

pub returns-clause-closed : goal.returns-clause-closed
returns-clause-closed g c = let e = c.close-closed.ensures.ended in let q = c.args.self in
    let k = q.table.table.shared.key in let v = c.args.pass.seat.me.0 in let words = slots_items c.close-closed.result.words in
    shown k v words e q.capacity q.sized q.table.seats c.word-length.result c.gather.new.left.items q.table.seated.0 c.word-length.ensures
    (c.gather.ensures e.tied.nodes (says_all k v words e q.capacity q.sized))
