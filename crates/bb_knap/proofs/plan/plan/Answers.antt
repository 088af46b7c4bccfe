use Rattle.std.proofs.Common.{◌≡◌, ℕ, ◌≤◌, subst, ◌<◌, List, [], ◌∷◌, ◌++◌, length, get_or, sym, ap, ◌∙◌, arith}
use Rattle.std.specs.List.Sorted.{IsPermutation}
use Rattle.std.proofs.lemmas.List.{take_all}
use Rattle.inst_text.specs.Limits.{max_items}
use Rattle.bb_knap.specs.Order.{order_of}
use Rattle.bb_knap.specs.Branching.{taken, taken_of}
use Rattle.bb_knap.specs.TreeLawsHold.InOrder.{length-order_below}
use Rattle.bb_knap.specs.TreeLawsHold.Taken.{taken-nothing}
use Rattle.bb_knap.proofs.Chosen.{taken-more, taken-same, is_plan, AreNumbers-more}
use Rattle.bb_knap.proofs.plan.plan.Goals as goal
use Rattle.bb_knap.proofs.plan.plan.Goals.{then-takes+in_ok-push, else-takes}

pub takes-requires : goal.takes-requires
takes-requires c =
    omega (arith, c.loop-place-test.true, ap length c.order-number-items.ensures, length-order_below c.args.knapsack.now.items (length c.args.knapsack.now.items), c.requires.decisions)

pub loop-place-init : goal.loop-place-init
loop-place-init c = c.new-numbers.ensures.items ∙ sym (taken-nothing c.args.node.now.decisions)

pub loop-place-preserved : goal.loop-place-preserved
loop-place-preserved c =
    let order = order_of c.args.knapsack.now.items in
    let inside : c.loop-place.place < length order = omega (arith, c.loop-place-test.true, ap length c.order-number-items.ensures) in
    let decided : c.loop-place.place < length c.args.node.now.decisions = omega (arith, inside, length-order_below c.args.knapsack.now.items (length c.args.knapsack.now.items), c.requires.decisions) in
    elim c.if-takes.branch [
      | then-takes+in_ok-push w ↦
          let more = taken-more order c.args.node.now.decisions c.loop-place.place 0 inside decided (sym c.takes.ensures ∙ w.if-takes.true) in
          let number = ap (λ xs. get_or xs c.loop-place.place 0) c.order-number-items.ensures in
          ap (λ v. v.items) w.numbers-is ∙ w.in_ok-push.ensures.items
          ∙ ap (λ n. c.loop-place.numbers.items ++ n ∷ []) number
          ∙ ap (λ xs. xs ++ get_or order c.loop-place.place 0 ∷ []) c.loop-place.invariant ∙ sym more
      | else-takes w ↦
          let same = taken-same order c.args.node.now.decisions c.loop-place.place inside decided (sym c.takes.ensures ∙ w.if-takes.false) in
          ap (λ v. v.items) w.numbers-is ∙ c.loop-place.invariant ∙ sym same
    ]

pub invariant_of-result : goal.invariant_of-result
invariant_of-result c =
    let i = c.args.knapsack.now in
    let end : length (order_of i.items) ≤ c.loop-place.place = omega (arith, c.loop-place-test.false, ap length c.order-number-items.ensures) in
    let e : c.loop-place.numbers.items ≡ taken_of i c.args.node.now.decisions = c.loop-place.invariant ∙ ap (λ ks. taken ks c.args.node.now.decisions) (take_all c.loop-place.place (order_of i.items) end) in
    let P : List ℕ → Type 0 = λ xs. IsPermutation xs c.sort.new.self.items in
    let plan = is_plan i c.args.node.now.decisions c.sort.new.self.items (subst P e c.in_ok-sort.ensures.permutation) c.in_ok-sort.ensures.sorted in
    AreNumbers-more 0 (length i.items) max_items c.sort.new.self.items c.requires.limits.count plan.chosen

pub returns : goal.returns
returns c =
    let i = c.args.knapsack.now in
    let end : length (order_of i.items) ≤ c.loop-place.place = omega (arith, c.loop-place-test.false, ap length c.order-number-items.ensures) in
    let e : c.loop-place.numbers.items ≡ taken_of i c.args.node.now.decisions = c.loop-place.invariant ∙ ap (λ ks. taken ks c.args.node.now.decisions) (take_all c.loop-place.place (order_of i.items) end) in
    let P : List ℕ → Type 0 = λ xs. IsPermutation xs c.sort.new.self.items in
    is_plan i c.args.node.now.decisions c.sort.new.self.items (subst P e c.in_ok-sort.ensures.permutation) c.in_ok-sort.ensures.sorted
