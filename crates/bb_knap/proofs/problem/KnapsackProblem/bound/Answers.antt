use Rattle.std.proofs.Common.{◌≡◌, ap, ◌∙◌, drop, length, arith}
use Rattle.bb_knap.specs.Order.{order_of}
use Rattle.bb_knap.specs.Branching.{dantzig, room_of, rest_of, bound_of}
use Rattle.bb_knap.proofs.problem.KnapsackProblem.bound.Goals as goal

pub returns-clause-exact : goal.returns-clause-exact
unfolding bound_of
returns-clause-exact c = λ name s.
    let i = c.args.self.now in
    let depth : c.min-depth.result ≡ length name = omega (arith, c.min-depth.ensures, c.depth.ensures.depth, ap length s.decisions, s.depth, ap length c.items.ensures.items) in
    let room : c.room.result ≡ room_of i name = omega (arith, c.room.ensures.room, s.room) in
    let rest : dantzig i.items c.room.result (drop c.min-depth.result (order_of i.items)) ≡ dantzig i.items (room_of i name) (rest_of i name) =
    ap (λ r. dantzig i.items r (drop c.min-depth.result (order_of i.items))) room
    ∙ ap (λ d. dantzig i.items (room_of i name) (drop d (order_of i.items))) depth in
    omega (arith, c.bound_at.ensures, c.value.ensures, s.value, rest)
