use Rattle.std.proofs.Common.{refl}
use Rattle.bb_pool.proofs.OnePass.Calls.{put_made, full_made, full_mark}
use Rattle.bb_pool.proofs.OnePass.Places.{place_made}
use Rattle.bb_pool.proofs.state.Search.put.Goals as goal

pub returns-in-Done-clause-put : goal.returns-in-Done-clause-put
returns-in-Done-clause-put g c = put_made _ _ c.one_seat_steps.ensures c.requires.number c.in-Done.ensures.call.1 c.in-Done.ensures.knows refl c.len-id.ensures c.in_ok-push.ensures c.in-Done.ensures.capacity refl

pub returns-in-Full-clause-refused : goal.returns-in-Full-clause-refused
returns-in-Full-clause-refused g c = let seat = g.C.OnePass.seat c.args.self.now.pass in let now = (g.C.OnePass.seat c.add.new.self).known in (
  full_made c.full_with_one_seat.ensures c.one_seat_has_made_all.ensures seat.capacity c.in-Full.receipt.place seat.known now _ c.requires.number c.in-Full.ensures.call.1 c.in-Full.ensures.knows,
  place_made seat.capacity c.in-Full.receipt.place seat.known now _ _ c.one_seat_has_made_all.ensures c.requires.number c.in-Full.ensures.call.1 c.in-Full.ensures.knows,
  full_mark seat.capacity c.in-Full.receipt.place seat.known now _ c.in-Full.ensures.call.1 c.in-Full.ensures.knows,
)
