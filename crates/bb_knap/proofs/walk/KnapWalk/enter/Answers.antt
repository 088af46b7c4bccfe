use Rattle.std.proofs.Common.{◌≡◌, ℕ, ◌+◌, ◌-◌, ◌<◌, ◌≤◌, Bool, true, false, List, [], ◌∷◌, ◌++◌, length, get_or, map, sym, ap, ◌∙◌, subst, refl, arith}
use Rattle.std.proofs.lemmas.Bool.{le-leb, lt-leb}
use Rattle.inst_text.specs.Limits.{max_knapsack_capacity}
use Rattle.inst_text.specs.declared.knapsack.Item.{Item}
use Rattle.bb_problem.specs.Tree.{below}
use Rattle.bb_knap.specs.Order.{order_of}
use Rattle.bb_knap.specs.Plans.{item_at}
use Rattle.bb_knap.specs.TreeLawsHold.InOrder.{length-order_below}
use Rattle.bb_knap.specs.TreeLawsHold.Tree.{children-none}
use Rattle.bb_knap.specs.Walking.{Walk, LeadsTo, decisions, left_instead, pending_at, names_below}
use Rattle.bb_knap.proofs.Walks.{walk_of, same_walk, is_next, length-decisions, small_at, leads_taking, leads_leaving, entered-both, entered-left}
use Rattle.bb_knap.proofs.walk.KnapWalk.enter.Goals as goal

pub returns-then-order-depth-clause-ok : goal.returns-then-order-depth-clause-ok
returns-then-order-depth-clause-ok c = λ name rest e.
    let w = c.self.inside in
    let i = c.args.self.now.instance in
    let next = is_next w.over w.path.items name rest (ap (λ v. v.pending) c.self.view_is ∙ e) in
    let all : length i.items ≤ length name =
    omega (
      arith,
      c.if-order-depth.true,
      c.len-depth.ensures,
      ap length c.order-order.ensures,
      length-order_below w.knapsack.now.items (length w.knapsack.now.items),
      ap (λ v. length v.instance.items) c.self.view_is,
      length-decisions w.path.items,
      ap length next.name_is,
    ) in
    c.skip.ensures name rest e ∙ ap (λ ks. walk_of i (map (below name) ks ++ rest)) (sym (children-none i name all))

pub overflow_add-self : goal.overflow_add-self
overflow_add-self c =
    let w = c.self.inside in
    let i = w.knapsack.now in
    let depth = c.len-depth.result in
    let len : depth ≡ length w.path.items = omega (arith, c.len-depth.ensures) in
    let inside : length w.path.items < length i.items = omega (arith, c.if-order-depth.false, len, ap length c.order-order.ensures, length-order_below i.items (length i.items)) in
    let item : c.numbered_item-item.result ≡ item_at i.items (get_or (order_of i.items) (length w.path.items) 0) =
    c.numbered_item-item.ensures ∙ ap (λ xs. item_at xs (get_or c.order-order.result.now depth 0)) c.items.ensures.items
    ∙ ap (λ ks. item_at i.items (get_or ks depth 0)) c.order-order.ensures ∙ ap (λ d. item_at i.items (get_or (order_of i.items) d 0)) len in
    omega (arith, small_at i w.path.items w.room w.value c.items.ensures.within_limits (c.self.invariant.0) inside, ap (λ x. x.value) item)

pub invariant_of-self-then-fits : goal.invariant_of-self-then-fits
invariant_of-self-then-fits c =
    let w = c.self.inside in
    let i = w.knapsack.now in
    let depth = c.len-depth.result in
    let len : depth ≡ length w.path.items = omega (arith, c.len-depth.ensures) in
    let inside : length w.path.items < length i.items = omega (arith, c.if-order-depth.false, len, ap length c.order-order.ensures, length-order_below i.items (length i.items)) in
    let item : c.numbered_item-item.result ≡ item_at i.items (get_or (order_of i.items) (length w.path.items) 0) =
    c.numbered_item-item.ensures ∙ ap (λ xs. item_at xs (get_or c.order-order.result.now depth 0)) c.items.ensures.items
    ∙ ap (λ ks. item_at i.items (get_or ks depth 0)) c.order-order.ensures ∙ ap (λ d. item_at i.items (get_or (order_of i.items) d 0)) len in
    let pushed : c.push.new.self.items ≡ w.path.items ++ true ∷ [] =
    c.in_ok-push.ensures.items ∙ ap (λ b. w.path.items ++ b ∷ []) (le-leb c.from.result w.room c.if-fits.true) in
    let light : (item_at i.items (get_or (order_of i.items) (length w.path.items) 0)).weight ≤ w.room = omega (arith, c.if-fits.true, c.from.ensures, ap (λ x. x.weight) item) in
    let P : Item → Type 0 = λ x. LeadsTo i (w.path.items ++ true ∷ []) (w.room - x.weight) (w.value + x.value) in
    let by_item : P c.numbered_item-item.result = subst P (sym item) (leads_taking i w.path.items w.room w.value (c.self.invariant.0) inside light) in
    let Q : ℕ → Type 0 = λ n. LeadsTo i (w.path.items ++ true ∷ []) (w.room - n) (w.value + c.numbered_item-item.result.value) in
    let by_weight : Q c.from-then-fits.result = subst Q (sym c.from-then-fits.ensures) by_item in
    let R : List Bool → Type 0 = λ path. LeadsTo i path (w.room - c.from-then-fits.result) (w.value + c.numbered_item-item.result.value) in
    let leads : R c.push.new.self.items = subst R (sym pushed) by_weight in
    let small : w.room - c.from-then-fits.result ≤ max_knapsack_capacity = omega (arith, c.self.invariant.1) in
    (leads, small)

pub invariant_of-self-else-fits : goal.invariant_of-self-else-fits
invariant_of-self-else-fits c =
    let w = c.self.inside in
    let i = w.knapsack.now in
    let depth = c.len-depth.result in
    let len : depth ≡ length w.path.items = omega (arith, c.len-depth.ensures) in
    let inside : length w.path.items < length i.items = omega (arith, c.if-order-depth.false, len, ap length c.order-order.ensures, length-order_below i.items (length i.items)) in
    let item : c.numbered_item-item.result ≡ item_at i.items (get_or (order_of i.items) (length w.path.items) 0) =
    c.numbered_item-item.ensures ∙ ap (λ xs. item_at xs (get_or c.order-order.result.now depth 0)) c.items.ensures.items
    ∙ ap (λ ks. item_at i.items (get_or ks depth 0)) c.order-order.ensures ∙ ap (λ d. item_at i.items (get_or (order_of i.items) d 0)) len in
    let pushed : c.push.new.self.items ≡ w.path.items ++ false ∷ [] =
    c.in_ok-push.ensures.items ∙ ap (λ b. w.path.items ++ b ∷ []) (lt-leb c.from.result w.room c.if-fits.false) in
    let R : List Bool → Type 0 = λ path. LeadsTo i path w.room w.value in
    let leads : R c.push.new.self.items = subst R (sym pushed) (leads_leaving i w.path.items w.room w.value (c.self.invariant.0) inside) in
    (leads, c.self.invariant.1)

pub returns-then-fits-clause-ok : goal.returns-then-fits-clause-ok
returns-then-fits-clause-ok c =
    let w = c.self.inside in
    let i = w.knapsack.now in
    let depth = c.len-depth.result in
    let len : depth ≡ length w.path.items = omega (arith, c.len-depth.ensures) in
    let inside : length w.path.items < length i.items = omega (arith, c.if-order-depth.false, len, ap length c.order-order.ensures, length-order_below i.items (length i.items)) in
    let item : c.numbered_item-item.result ≡ item_at i.items (get_or (order_of i.items) (length w.path.items) 0) =
    c.numbered_item-item.ensures ∙ ap (λ xs. item_at xs (get_or c.order-order.result.now depth 0)) c.items.ensures.items
    ∙ ap (λ ks. item_at i.items (get_or ks depth 0)) c.order-order.ensures ∙ ap (λ d. item_at i.items (get_or (order_of i.items) d 0)) len in
    let pushed : c.push.new.self.items ≡ w.path.items ++ true ∷ [] =
    c.in_ok-push.ensures.items ∙ ap (λ b. w.path.items ++ b ∷ []) (le-leb c.from.result w.room c.if-fits.true) in
    let light : (item_at i.items (get_or (order_of i.items) (length w.path.items) 0)).weight ≤ w.room = omega (arith, c.if-fits.true, c.from.ensures, ap (λ x. x.weight) item) in
    let P : Walk → Type 0 = λ v. (name : List ℕ) (rest : List (List ℕ)) → v.pending ≡ name ∷ rest
    → walk_of i (pending_at w.over c.push.new.self.items) ≡ walk_of v.instance (names_below v.instance name ++ rest) in
    subst P c.self.view_is (λ name rest e.
    let next = is_next w.over w.path.items name rest e in
    same_walk i i (pending_at w.over c.push.new.self.items) (names_below i name ++ rest) refl
    (ap (λ b. pending_at b c.push.new.self.items) next.goes_on ∙ ap (λ p. decisions p ∷ left_instead [] p) pushed
    ∙ entered-both i w.path.items w.room w.value name rest (c.self.invariant.0) next.name_is next.rest_is inside light))

pub returns-else-fits-clause-ok : goal.returns-else-fits-clause-ok
returns-else-fits-clause-ok c =
    let w = c.self.inside in
    let i = w.knapsack.now in
    let depth = c.len-depth.result in
    let len : depth ≡ length w.path.items = omega (arith, c.len-depth.ensures) in
    let inside : length w.path.items < length i.items = omega (arith, c.if-order-depth.false, len, ap length c.order-order.ensures, length-order_below i.items (length i.items)) in
    let item : c.numbered_item-item.result ≡ item_at i.items (get_or (order_of i.items) (length w.path.items) 0) =
    c.numbered_item-item.ensures ∙ ap (λ xs. item_at xs (get_or c.order-order.result.now depth 0)) c.items.ensures.items
    ∙ ap (λ ks. item_at i.items (get_or ks depth 0)) c.order-order.ensures ∙ ap (λ d. item_at i.items (get_or (order_of i.items) d 0)) len in
    let pushed : c.push.new.self.items ≡ w.path.items ++ false ∷ [] =
    c.in_ok-push.ensures.items ∙ ap (λ b. w.path.items ++ b ∷ []) (lt-leb c.from.result w.room c.if-fits.false) in
    let heavy : w.room < (item_at i.items (get_or (order_of i.items) (length w.path.items) 0)).weight = omega (arith, c.if-fits.false, c.from.ensures, ap (λ x. x.weight) item) in
    let P : Walk → Type 0 = λ v. (name : List ℕ) (rest : List (List ℕ)) → v.pending ≡ name ∷ rest
    → walk_of i (pending_at w.over c.push.new.self.items) ≡ walk_of v.instance (names_below v.instance name ++ rest) in
    subst P c.self.view_is (λ name rest e.
    let next = is_next w.over w.path.items name rest e in
    same_walk i i (pending_at w.over c.push.new.self.items) (names_below i name ++ rest) refl
    (ap (λ b. pending_at b c.push.new.self.items) next.goes_on ∙ ap (λ p. decisions p ∷ left_instead [] p) pushed
    ∙ entered-left i w.path.items w.room w.value name rest (c.self.invariant.0) next.name_is next.rest_is inside heavy))
