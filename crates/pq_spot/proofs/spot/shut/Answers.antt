use Rattle.std.specs.Mem.Slots.{slots_items}
use Rattle.pq_spot.proofs.Ending.{shown}
use Rattle.pq_spot.proofs.spot.shut.Goals as goal

pub returns : goal.returns
returns c = let q = c.args.table in record {
  closed = shown q.table.shared.key c.args.pass.seat.me.0 (slots_items c.close-closed.result.words) c.close-closed.ensures.ended c.args.pass.number c.requires.rests.1
      q.seats c.word-there.result c.word-length.result q.seated.0 c.word-there.ensures c.word-length.ensures;
}
