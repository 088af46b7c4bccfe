use Rattle.std.proofs.Common.{◌≡◌, ℕ, ◌+◌, ◌-◌, ◌<◌, ◌≤◌, Bool, false, List, [], ◌∷◌, ◌++◌, set, length, get_or, take, sym, ap, ◌∙◌, subst, refl, arith}
use Rattle.std.proofs.lemmas.List.{take_more_set}
use Rattle.std.proofs.Math.Seq.{take-set-lt}
use Rattle.inst_text.specs.Limits.{max_knapsack_capacity}
use Rattle.inst_text.specs.declared.knapsack.Item.{Item}
use Rattle.bb_knap.specs.Order.{order_of}
use Rattle.bb_knap.specs.Plans.{item_at}
use Rattle.bb_knap.specs.TreeLawsHold.InOrder.{length-order_below}
use Rattle.bb_knap.specs.Walking.{Walk, LeadsTo, IsLastTaken, decisions, left_instead, pending_at}
use Rattle.bb_knap.proofs.Walks.{walk_of, same_walk, is_next, is_split, leads_left, left_instead-last, left_instead-none}
use Rattle.bb_knap.proofs.walk.KnapWalk.skip.Goals as goal

-- the path up to a place, with the item there left
left_at : (path short : List Bool) (place : ℕ) → short ≡ take (place + 1) path → place < length path → set short place false ≡ take place path ++ false ∷ []
left_at path short place is inside =
    let lt : place < place + 1 = omega arith in
    ap (λ xs. set xs place false) is ∙ sym (take-set-lt (place + 1) path place false lt) ∙ take_more_set path place false inside

pub returns-in_default : goal.returns-in_default
returns-in_default c =
    let w = c.self.inside in
    let i = w.knapsack.now in
    let none : (k : ℕ) → k < length w.path.items → get_or w.path.items k false ≡ false = rw c.as_slice.ensures.value at c.in_default.ensures in
    let P : Walk → Type 0 = λ v. (name : List ℕ) (rest : List (List ℕ)) → v.pending ≡ name ∷ rest → walk_of i [] ≡ walk_of v.instance rest in
    subst P c.self.view_is (λ name rest e.
    let next = is_next w.over w.path.items name rest e in
    same_walk i i [] rest refl (sym (left_instead-none [] w.path.items none) ∙ next.rest_is))

pub bounds-order-place : goal.bounds-order-place
bounds-order-place c =
    let w = c.self.inside in
    let i = w.knapsack.now in
    let last : IsLastTaken w.path.items c.in-Some.place = rw c.as_slice.ensures.value at c.in-Some.ensures in
    let split = is_split i w.path.items w.room w.value c.in-Some.place (c.self.invariant.0) last in
    omega (arith, split.inside, ap length c.order-order.ensures, length-order_below i.items (length i.items))

pub overflow_sub-self : goal.overflow_sub-self
overflow_sub-self c =
    let w = c.self.inside in
    let i = w.knapsack.now in
    let place = c.in-Some.place in
    let last : IsLastTaken w.path.items place = rw c.as_slice.ensures.value at c.in-Some.ensures in
    let split = is_split i w.path.items w.room w.value place (c.self.invariant.0) last in
    let item : c.numbered_item-item.result ≡ item_at i.items (get_or (order_of i.items) place 0) =
    c.numbered_item-item.ensures ∙ ap (λ xs. item_at xs (get_or c.order-order.result.now place 0)) c.items.ensures.items
    ∙ ap (λ ks. item_at i.items (get_or ks place 0)) c.order-order.ensures in
    omega (arith, c.self.invariant.0.value, split.value, ap (λ x. x.value) item)

pub invariant_of-self-2 : goal.invariant_of-self-2
invariant_of-self-2 c =
    let w = c.self.inside in
    let i = w.knapsack.now in
    let place = c.in-Some.place in
    let last : IsLastTaken w.path.items place = rw c.as_slice.ensures.value at c.in-Some.ensures in
    let item : c.numbered_item-item.result ≡ item_at i.items (get_or (order_of i.items) place 0) =
    c.numbered_item-item.ensures ∙ ap (λ xs. item_at xs (get_or c.order-order.result.now place 0)) c.items.ensures.items
    ∙ ap (λ ks. item_at i.items (get_or ks place 0)) c.order-order.ensures in
    let new = set c.truncate.new.self.items place false in
    let left = leads_left i w.path.items new w.room w.value place (c.self.invariant.0) last (left_at w.path.items c.truncate.new.self.items place c.truncate.ensures.items last.inside) in
    let P : Item → Type 0 = λ x. LeadsTo i new (w.room + x.weight) (w.value - x.value) in
    let by_item : P c.numbered_item-item.result = subst P (sym item) left in
    let Q : ℕ → Type 0 = λ n. LeadsTo i new (w.room + n) (w.value - c.numbered_item-item.result.value) in
    let leads : Q c.from.result = subst Q (sym c.from.ensures) by_item in
    let small : w.room + c.from.result ≤ max_knapsack_capacity = omega (arith, leads.room, c.items.ensures.within_limits.capacity) in
    (leads, small)

pub returns : goal.returns
returns c =
    let w = c.self.inside in
    let i = w.knapsack.now in
    let place = c.in-Some.place in
    let last : IsLastTaken w.path.items place = rw c.as_slice.ensures.value at c.in-Some.ensures in
    let new = set c.truncate.new.self.items place false in
    let new_is : new ≡ take place w.path.items ++ false ∷ [] = left_at w.path.items c.truncate.new.self.items place c.truncate.ensures.items last.inside in
    let P : Walk → Type 0 = λ v. (name : List ℕ) (rest : List (List ℕ)) → v.pending ≡ name ∷ rest → walk_of i (pending_at w.over new) ≡ walk_of v.instance rest in
    subst P c.self.view_is (λ name rest e.
    let next = is_next w.over w.path.items name rest e in
    same_walk i i (pending_at w.over new) rest refl
    (ap (λ b. pending_at b new) next.goes_on ∙ ap (λ p. decisions p ∷ left_instead [] p) new_is ∙ sym (left_instead-last w.path.items place last) ∙ next.rest_is))
