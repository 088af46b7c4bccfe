-- The least cost of a feasible schedule: some feasible schedule has it, and none costs less.
use Rattle.std.proofs.Common.{◌≡◌, ℕ, zero, suc, ◌+◌, ◌-◌, ◌<◌, ◌≤◌, inl, inr, List, [], ◌∷◌, ◌++◌, refl, sym, ap, ◌∙◌}
use Rattle.std.proofs.Common.{length, map, get_or, arith}
use Rattle.std.specs.Prelude.{Contains}
use Rattle.std.proofs.lemmas.Bool.{cases_lt}
use Rattle.std.proofs.lemmas.List.{append-nil, append_assoc, length-map, length_push, get_or-map}
use Rattle.std.proofs.lemmas.List.Elements.{Contains-get_or}
use Rattle.bb_problem.specs.Tree.{below}
use Rattle.inst_text.specs.Shop.{JobShop, IsJobShop, operations}
use Rattle.bb_shop.specs.Plans.{IsFeasible, makespan}
use Rattle.bb_shop.specs.Dispatching.{opened, state_of, IsLeft, IsOrder}
use Rattle.bb_shop.specs.Branching.{children_of, order_cost, Reaches, least_of, least_from, least_cost}
use Rattle.bb_shop.specs.TreeLawsHold.States.{AreLeft-rest, IsOrder-below, length-order, some_left}
use Rattle.bb_shop.specs.TreeLawsHold.Children.{child_is_left, left_is_child}
use Rattle.bb_shop.specs.TreeLawsHold.Reaching.{Reaches-whole, Reaches-above, reached}
use Rattle.bb_shop.specs.TreeLawsHold.Leaves.{leaf_is_feasible}

-- the least number is at most each
least_of-le : (xs : List ℕ) (k : ℕ) → k < length xs → least_of xs ≤ get_or xs k 0
least_of-le [] k lt = absurd (omega (arith, lt))
least_of-le (x ∷ []) zero lt = omega arith
least_of-le (x ∷ []) (suc k) lt = absurd (omega (arith, lt))
least_of-le (x ∷ y ∷ ys) zero lt = omega arith
least_of-le (x ∷ y ∷ ys) (suc k) lt = omega (arith, least_of-le (y ∷ ys) k (omega (arith, lt)))

-- and is one of them
record LeastAt (xs : List ℕ) : Type 0 where
  place : ℕ
  inside : place < length xs
  least : get_or xs place 0 ≡ least_of xs

least_at : (x : ℕ) (xs : List ℕ) → LeastAt (x ∷ xs)
least_at x [] = record { place = 0; inside = omega arith; least = refl }
least_at x (y ∷ ys) =
    let rest = least_at y ys in
    elim (cases_lt x (least_of (y ∷ ys))) [
      | inl lt ↦ record { place = 0; inside = omega arith; least = omega (arith, lt) }
      | inr le ↦
          record { place = suc rest.place; inside = omega (arith, rest.inside); least = omega (arith, le, rest.least) }
    ]

least_at_some : (xs : List ℕ) → 0 < length xs → LeastAt xs
least_at_some [] some = absurd (omega (arith, some))
least_at_some (x ∷ xs) some = least_at x xs

-- the same of a number for each of these
least_of-map_le : (f : ℕ → ℕ) (ks : List ℕ) (k : ℕ) → Contains ks k → least_of (map f ks) ≤ f k
least_of-map_le f ks k there =
    let e : get_or (map f ks) (there.0) 0 ≡ f k = get_or-map f ks (there.0) k 0 (there.1) ∙ ap f (there.2) in
    omega (arith, e, least_of-le (map f ks) (there.0) (omega (arith, there.1, length-map ks f)))

record LeastOver (f : ℕ → ℕ) (ks : List ℕ) : Type 0 where
  number : ℕ
  there : Contains ks number
  least : f number ≡ least_of (map f ks)

least_over : (f : ℕ → ℕ) (ks : List ℕ) (k : ℕ) → Contains ks k → LeastOver f ks
least_over f ks k there =
    let at = least_at_some (map f ks) (omega (arith, there.1, length-map ks f)) in
    let inside : at.place < length ks = omega (arith, at.inside, length-map ks f) in
    record {
      number = get_or ks at.place 0;
      there = Contains-get_or ks at.place 0 inside;
      least = sym (get_or-map f ks at.place 0 0 inside) ∙ at.least;
    }

-- no whole order that goes on from a node costs less than the least from there
least_from-le : (s : JobShop) (n : ℕ) (name rest : List ℕ) → IsOrder s (name ++ rest) → length name + n ≡ operations s
    → length rest ≡ n
    → least_from s n name ≤ order_cost s (name ++ rest)
unfolding least_from
least_from-le s zero name [] order whole same = rw (append-nil name) (omega arith)
least_from-le s zero name (k ∷ rest) order whole same = absurd (omega (arith, same))
least_from-le s (suc n) name [] order whole same = absurd (omega (arith, same))
least_from-le s (suc n) name (k ∷ rest) order whole same =
    let left : IsLeft s (state_of s name) k = (AreLeft-rest s (opened s) name (k ∷ rest) order).0 in
    let child = left_is_child s name k (omega (arith, whole)) left in
    let e : below name k ++ rest ≡ name ++ (k ∷ rest) = append_assoc name (k ∷ []) rest in
    let further : least_from s n (below name k) ≤ order_cost s (name ++ (k ∷ rest)) =
    rw e at (least_from-le s n (below name k) rest (rw e order) (omega (arith, length_push name k, whole))
    (omega (arith, same))) in
    omega (arith, least_of-map_le (λ i. least_from s n (below name i)) (children_of s name) k child, further)

-- and some whole order costs no more
least_reached : (s : JobShop) (n : ℕ) (name : List ℕ) → IsOrder s name → length name + n ≡ operations s
    → Reaches s name (least_from s n name)
unfolding least_from
least_reached s zero name order whole =
    Reaches-whole s name (order_cost s name) order (omega (arith, whole)) (omega arith)
least_reached s (suc n) name order whole =
    let short : length name < operations s = omega (arith, whole) in
    let left = some_left s name order short in
    let one = least_over (λ i. least_from s n (below name i)) (children_of s name) (left.0)
    (left_is_child s name (left.0) short (left.1)) in
    let order_k = IsOrder-below s name one.number order (child_is_left s name one.number short one.there) in
    let rest = least_reached s n (below name one.number) order_k (omega (arith, length_push name one.number, whole)) in
    rw (← one.least) (Reaches-above s name one.number (least_from s n (below name one.number)) rest)

-- so from each order some whole order goes on
pub goes_on : (s : JobShop) (name : List ℕ) → IsJobShop s → IsOrder s name → (more : List ℕ)
    × IsOrder s (name ++ more) × (length (name ++ more) ≡ operations s)
goes_on s name shop order =
    let r = least_reached s (operations s - length name) name order (omega (arith, length-order s name order)) in
    (r.more, r.order, r.whole)

-- the schedule of an order that costs the least is feasible
pub attained : (s : JobShop) → IsJobShop s → (plan : List (List ℕ)) × IsFeasible s plan
    × (makespan s plan ≡ least_cost s)
attained s shop =
    let r = least_reached s (operations s) [] tt (omega arith) in
    let none_less : least_cost s ≤ order_cost s r.more =
    least_from-le s (operations s) [] r.more r.order (omega arith) r.whole in
    ((state_of s r.more).starts, leaf_is_feasible s r.more shop r.order r.whole, omega (arith, none_less, r.cost))

-- and no feasible schedule costs less, since an order reaches it
pub least_of_all : (s : JobShop) (plan : List (List ℕ)) → IsJobShop s → IsFeasible s plan
    → least_cost s ≤ makespan s plan
least_of_all s plan shop feasible =
    let r = reached s plan shop feasible in
    omega (arith, least_from-le s (operations s) [] r.more r.order (omega arith) r.whole, r.cost)
