use Rattle.std.proofs.Common.{refl}
use Rattle.bb_pool.specs.OneSeat.{held}
use Rattle.bb_pool.specs.Underway.{IsStored}
use Rattle.bb_pool.proofs.OnePass.Calls.{take_made, none_made, got_least, of_least}
use Rattle.bb_pool.proofs.state.Search.take.Goals as goal

pub take-node-requires : goal.take-node-requires
take-node-requires g c = let seat = g.C.OnePass.seat c.args.self.now.pass in
    of_least (IsStored c.args.self.now.store) (held seat) c.in-Got.e
    (got_least seat.capacity _ _ seat.known _ c.in-Got.e c.one_seat_steps.ensures c.requires.number c.in-Got.ensures.call.1 c.in-Got.ensures.knows) c.requires.stored

pub returns-in-Got : goal.returns-in-Got
returns-in-Got g c = take_made _ _ _ c.one_seat_steps.ensures c.requires.number c.limit-limit.ensures.limit c.in-Got.ensures.key c.in-Got.ensures.call.1 c.in-Got.ensures.knows refl
    c.take-node.ensures.node c.take-node.ensures.rest c.in-Got.ensures.capacity refl

pub returns-in-Empty : goal.returns-in-Empty
returns-in-Empty g c = none_made _ _ _ c.one_seat_steps.ensures c.requires.number c.limit-limit.ensures.limit tt c.in-Empty.ensures.call.1 c.in-Empty.ensures.knows refl

pub returns-in-Above : goal.returns-in-Above
returns-in-Above g c = none_made _ _ _ c.one_seat_steps.ensures c.requires.number c.limit-limit.ensures.limit tt c.in-Above.ensures.call.1 c.in-Above.ensures.knows refl
