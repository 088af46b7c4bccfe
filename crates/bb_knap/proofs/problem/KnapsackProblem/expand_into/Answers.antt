use Rattle.std.proofs.Common.{subst, ◌≡◌, ◌+◌, ◌-◌, ◌<◌, ◌≤◌, [], ◌∷◌, ◌++◌, length, get_or, ap, ◌∙◌, arith}
use Rattle.std.specs.Prelude.{min}
use Rattle.bb_knap.specs.Plans.{item_at}
use Rattle.bb_knap.specs.Order.{order_of}
use Rattle.bb_knap.specs.Branching.{IsPlanOf}
use Rattle.bb_knap.specs.TreeLawsHold.InOrder.{length-order_below}
use Rattle.bb_knap.proofs.Expanded.{next_of, leaf_is, both_stand, one_stands}
use Rattle.bb_knap.proofs.problem.KnapsackProblem.expand_into.Goals as goal
use Rattle.bb_knap.proofs.problem.KnapsackProblem.expand_into.Goals.{then-from-room+in_ok-taking, else-from-room}

pub plan-requires : goal.plan-requires
plan-requires c = record {
  limits = c.items-items.ensures.within_limits;
  decisions =
      omega (arith, c.if-order-depth.true, ap length c.order-order.ensures, length-order_below c.args.self.now.items (length c.args.self.now.items), c.depth-depth.ensures.depth);
}

pub returns-then-order-depth-clause-range : goal.returns-then-order-depth-clause-range
returns-then-order-depth-clause-range c = omega (arith, c.items-items.ensures.within_limits.values)

pub returns-then-order-depth-clause-expanded : goal.returns-then-order-depth-clause-expanded
returns-then-order-depth-clause-expanded c = λ name s.
    let i = c.args.self.now in
    let node = c.args.node in
    let deep : length i.items ≤ length node.decisions =
    omega (arith, c.if-order-depth.true, ap length c.order-order.ensures, length-order_below i.items (length i.items), c.depth-depth.ensures.depth) in
    let plan : IsPlanOf i node.decisions c.in_ok-plan.field-0 = c.in_ok-plan.ensures in
    leaf_is i node name c.in_ok-plan.field-0 c.items-items.ensures.within_limits s deep plan

pub taking-requires-clause-depth : goal.taking-requires-clause-depth
taking-requires-clause-depth c =
    omega (arith, c.if-order-depth.false, ap length c.order-order.ensures, length-order_below c.args.self.now.items (length c.args.self.now.items), c.depth-depth.ensures.depth, c.items-items.ensures.within_limits.count)

pub leaving-requires : goal.leaving-requires
leaving-requires c =
    omega (arith, c.if-order-depth.false, ap length c.order-order.ensures, length-order_below c.args.self.now.items (length c.args.self.now.items), c.depth-depth.ensures.depth, c.items-items.ensures.within_limits.count)

pub returns-clause-expanded : goal.returns-clause-expanded
returns-clause-expanded c = λ name s.
    let i = c.args.self.now in
    let node = c.args.node in
    let depth : c.depth-depth.result ≡ length name = c.depth-depth.ensures.depth ∙ ap length s.decisions in
    let inside : length name < length i.items =
    omega (arith, c.if-order-depth.false, ap length c.order-order.ensures, length-order_below i.items (length i.items), depth) in
    let item : c.numbered_item-item.result ≡ item_at i.items (next_of i name) =
    c.numbered_item-item.ensures
    ∙ ap (λ xs. item_at xs (get_or c.order-order.result.now c.depth-depth.result 0)) c.items-items.ensures.items
    ∙ ap (λ ks. item_at i.items (get_or ks c.depth-depth.result 0)) c.order-order.ensures
    ∙ ap (λ d. item_at i.items (get_or (order_of i.items) d 0)) depth in
    let pushed = c.push_reserved-2.ensures.items in
    let kept = c.reserve.ensures.items ∙ c.clear.ensures.items in
    elim c.if-from-room.branch [
      | then-from-room+in_ok-taking w ↦
          let fits : (item_at i.items (next_of i name)).weight ≤ node.room =
          omega (arith, w.if-from-room.true, c.from.ensures, c.room.ensures.room, ap (λ x. x.weight) item) in
          both_stand i node w.in_ok-taking.field-0 c.in_ok-leaving.field-0 name c.push_reserved-2.new.self.items c.items-items.ensures.within_limits s inside fits
          (pushed ∙ ap (λ xs. xs ++ c.in_ok-leaving.field-0 ∷ [])
          (ap (λ v. v.items) w.children-is ∙ w.push_reserved.ensures.items ∙ ap (λ xs. xs ++ w.in_ok-taking.field-0 ∷ []) kept))
          (ap (λ n. n.decisions) w.in_ok-taking.ensures)
          (ap (λ n. n.room) w.in_ok-taking.ensures ∙ ap (λ x. node.room - x.weight) item)
          (ap (λ n. n.value) w.in_ok-taking.ensures ∙ ap (λ x. min (node.value + x.value) 4294967295) item)
          c.in_ok-leaving.ensures
      | else-from-room w ↦
          let heavy : node.room < (item_at i.items (next_of i name)).weight =
          omega (arith, w.if-from-room.false, c.from.ensures, c.room.ensures.room, ap (λ x. x.weight) item) in
          one_stands i node c.in_ok-leaving.field-0 name c.push_reserved-2.new.self.items s inside heavy
          (pushed ∙ ap (λ xs. xs ++ c.in_ok-leaving.field-0 ∷ []) (ap (λ v. v.items) w.children-is ∙ kept))
          c.in_ok-leaving.ensures
    ]

pub returns-then-order-depth-clause-leaf : goal.returns-then-order-depth-clause-leaf
returns-then-order-depth-clause-leaf c = λ name s.
    let i = c.args.self.now in
    let plan : IsPlanOf i c.args.node.decisions c.in_ok-plan.field-0 = c.in_ok-plan.ensures in
    subst (λ d. IsPlanOf i d c.in_ok-plan.field-0) s.decisions plan
