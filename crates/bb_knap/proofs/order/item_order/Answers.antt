use Rattle.std.proofs.Common.{◌≡◌, [], ◌∷◌, length, add-one, ap, ◌∙◌, rules, arith}
use Rattle.std.proofs.lemmas.List.Sorted.{sorted_far}
use Rattle.std.proofs.lemmas.Fn.{always_returns_same}
use Rattle.std.specs.Ordering.{is_lt}
use Rattle.std.specs.List.Sorted.{IsSortedBy}
use Rattle.bb_problem.specs.Tree.{total}
use Rattle.bb_knap.specs.Order.{goes_before}
use Rattle.bb_knap.specs.TreeLawsHold.Denser.{is_order}
use Rattle.bb_knap.specs.TreeLawsHold.Ordered.{IsInOrder-at}
use Rattle.bb_knap.specs.TreeLawsHold.InOrder.{sum_below, total-append, is_order_below}
use Rattle.bb_knap.proofs.order.item_order.Goals as goal

pub loop-number-preserved : goal.loop-number-preserved
loop-number-preserved c = λ f.
    let pushed = ap (total f) c.in_ok-push.ensures.items in
    rw (add-one c.loop-number.number) (omega (arith, pushed, total-append f c.loop-number.order.items (c.loop-number.number ∷ []), c.loop-number.invariant f))

pub returns : goal.returns
returns c =
    let items = c.args.items.now in
    let n : c.loop-number.number ≡ length items = omega (arith, c.loop-number-test.false, c.loop-number.auto.number-end) in
    let sorted : IsSortedBy (goes_before items) c.sort_by.new.self.items =
    c.in_ok-sort_by.ensures.sorted (goes_before items) (is_order items) (always_returns_same _ (λ a r. is_lt r ≡ goes_before items a.0.now a.1.0.now) _ (λ a r q k. search rules)) in
    is_order_below items (length items) c.loop-number.order.items c.sort_by.new.self.items
    (λ f. c.loop-number.invariant f ∙ ap (sum_below f) n)
    c.in_ok-sort_by.ensures.permutation
    (IsInOrder-at (goes_before items) c.sort_by.new.self.items (sorted_far (goes_before items) (is_order items) c.sort_by.new.self.items sorted))
