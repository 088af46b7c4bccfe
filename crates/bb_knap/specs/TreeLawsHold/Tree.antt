-- The laws of the tree of decisions.
use Rattle.std.proofs.Common.{◌≡◌, ◌≢◌, ℕ, zero, suc, ◌+◌, ◌-◌, ◌*◌, ◌^◌, ◌<◌, ◌≤◌, Bool, true, false, cond, List, []}
use Rattle.std.proofs.Common.{◌∷◌, ◌++◌, inl, inr, refl, sym, ap, ◌∙◌, length, arith}
use Rattle.std.specs.Prelude.{min, nat_eq, nat_le, Contains}
use Rattle.std.specs.List.{IsDistinct}
use Rattle.std.proofs.lemmas.List.{append_assoc}
use Rattle.std.proofs.lemmas.Bool.Decides.{leb_tells}
use Rattle.std.proofs.lemmas.Nat.{pow-add}
use Rattle.std.proofs.Math.ListN.{drop_of_length-le}
use Rattle.bb_problem.specs.Tree.{below, total, nodes_from, node_count}
use Rattle.bb_problem.specs.Meaning.{IsLawful}
use Rattle.inst_text.specs.declared.knapsack.Item.{Item}
use Rattle.inst_text.specs.Knapsack.{Instance, IsInstance, total_value}
use Rattle.bb_knap.specs.Plans.{item_at, weight_of, value_of, IsFeasible, cost_of}
use Rattle.bb_knap.specs.Order.{goes_before, order_of}
use Rattle.bb_knap.specs.Branching.{taken, dantzig, taken_of, rest_of, room_of, bound_of, choices_at, children_of}
use Rattle.bb_knap.specs.Branching.{tree_of, tree_size, Reaches, least_cost, root_bound, meaning_of}
use Rattle.bb_knap.specs.TreeLawsHold.InOrder.{weight_of-append, value_of-append, total-order_below}
use Rattle.bb_knap.specs.TreeLawsHold.InOrder.{IsInOrder-order_below, IsInOrder-drop, length-order_below}
use Rattle.bb_knap.specs.TreeLawsHold.InOrder.{weight_of-total, value_of-total}
use Rattle.bb_knap.specs.TreeLawsHold.Dantzig.{dantzig_law}
use Rattle.bb_knap.specs.TreeLawsHold.Taken.{taken-append, taken-none, taken-left, taken-taken, decisions_for, is_among}
use Rattle.bb_knap.specs.TreeLawsHold.Taken.{where_, total-decided, sum_below-among}
use Rattle.bb_knap.specs.TreeLawsHold.Best.{best_is_attained, best_is_greatest}

-- the decisions for a choice take what it has
total-chosen : (i : Instance) (choice : List ℕ) → IsFeasible i choice → (f : ℕ → ℕ)
    → total f (taken_of i (decisions_for choice (order_of i.items))) ≡ total f choice
total-chosen i choice feasible f =
    total-decided f choice (order_of i.items)
    ∙ total-order_below (where_ (is_among choice) f) i.items (length i.items)
    ∙ sum_below-among f 0 (length i.items) choice feasible.chosen

weight_of-chosen : (i : Instance) (choice : List ℕ) → IsFeasible i choice
    → weight_of i.items (taken_of i (decisions_for choice (order_of i.items))) ≡ weight_of i.items choice
weight_of-chosen i choice feasible =
    weight_of-total i.items (taken_of i (decisions_for choice (order_of i.items)))
    ∙ total-chosen i choice feasible (λ k. (item_at i.items k).weight) ∙ sym (weight_of-total i.items choice)

value_of-chosen : (i : Instance) (choice : List ℕ) → IsFeasible i choice
    → value_of i.items (taken_of i (decisions_for choice (order_of i.items))) ≡ value_of i.items choice
value_of-chosen i choice feasible =
    value_of-total i.items (taken_of i (decisions_for choice (order_of i.items)))
    ∙ total-chosen i choice feasible (λ k. (item_at i.items k).value) ∙ sym (value_of-total i.items choice)

pub reached : (i : Instance) (choice : List ℕ) → IsFeasible i choice → Reaches i [] (cost_of i choice)
reached i choice feasible = record {
  more = decisions_for choice (order_of i.items);
  fits = omega (arith, weight_of-chosen i choice feasible, feasible.fits);
  cost = omega (arith, value_of-chosen i choice feasible);
}

-- no feasible choice is worth more than the root's bound
pub root_bounds : (i : Instance) (choice : List ℕ) → IsFeasible i choice → value_of i.items choice ≤ root_bound i
root_bounds i choice feasible =
    omega (
      arith,
      value_of-chosen i choice feasible,
      dantzig_law i.items i.capacity (order_of i.items) (decisions_for choice (order_of i.items))
          (IsInOrder-order_below i.items (length i.items))
          (omega (arith, weight_of-chosen i choice feasible, feasible.fits)),
    )

-- what decisions and more decisions take
pub weight_of-more : (i : Instance) (ds more : List ℕ)
    → weight_of i.items (taken_of i (ds ++ more)) ≡ weight_of i.items (taken_of i ds) + weight_of i.items
    (taken (rest_of i ds) more)
weight_of-more i ds more =
    rw (taken-append (order_of i.items) ds more) (weight_of-append i.items (taken_of i ds) (taken (rest_of i ds) more))

pub value_of-more : (i : Instance) (ds more : List ℕ)
    → value_of i.items (taken_of i (ds ++ more)) ≡ value_of i.items (taken_of i ds) + value_of i.items
    (taken (rest_of i ds) more)
value_of-more i ds more =
    rw (taken-append (order_of i.items) ds more) (value_of-append i.items (taken_of i ds) (taken (rest_of i ds) more))

pub bounded : (i : Instance) (name : List ℕ) (v : ℕ) → Reaches i name v → bound_of i name ≤ v
unfolding bound_of
bounded i name v r =
    let weight = weight_of-more i name r.more in
    let value = value_of-more i name r.more in
    let law : value_of i.items (taken (rest_of i name) r.more) ≤ dantzig i.items (room_of i name) (rest_of i name) =
    dantzig_law i.items (room_of i name) (rest_of i name) r.more
    (IsInOrder-drop (goes_before i.items) (length name) (order_of i.items)
    (IsInOrder-order_below i.items (length i.items)))
    (omega (arith, weight, r.fits)) in
    omega (arith, value, law, r.cost)

left_at : (b : Bool) → Contains {X = ℕ} (cond b (1 ∷ 0 ∷ []) (0 ∷ [])) 0
left_at true = (1, omega arith, refl)
left_at false = (0, omega arith, refl)

-- to leave the next item is a child, and to take it where it fits
left_there : (items : List Item) (room k : ℕ) (ks : List ℕ) → Contains (choices_at items room (k ∷ ks)) 0
unfolding choices_at
left_there items room k ks = left_at (nat_le (item_at items k).weight room)

taken_there_at : (b : Bool) → b ≡ true → Contains {X = ℕ} (cond b (1 ∷ 0 ∷ []) (0 ∷ [])) 1
taken_there_at true h = (0, omega arith, refl)
taken_there_at false h = absurd (cc)

taken_there : (items : List Item) (room k : ℕ) (ks : List ℕ) → (item_at items k).weight ≤ room
    → Contains (choices_at items room (k ∷ ks)) 1
unfolding choices_at
taken_there items room k ks fits =
    elim (leb_tells (item_at items k).weight room) [
      | inl light ↦ taken_there_at (nat_le (item_at items k).weight room) (light.0)
      | inr heavy ↦ absurd (omega (arith, heavy.1, fits))
    ]

-- one decision more, where the further ones take the same
go_on : (i : Instance) (name : List ℕ) (v d : ℕ) (more next : List ℕ)
    → weight_of i.items (taken_of i (name ++ more)) ≤ i.capacity
    → total_value i.items ≤ v + value_of i.items (taken_of i (name ++ more))
    → taken (rest_of i name) (d ∷ next) ≡ taken (rest_of i name) more → Reaches i (name ++ d ∷ []) v
go_on i name v d more next fits cost same =
    let e : taken_of i ((name ++ d ∷ []) ++ next) ≡ taken_of i (name ++ more) =
    ap (taken_of i) (append_assoc name (d ∷ []) next) ∙ taken-append (order_of i.items) name (d ∷ next)
    ∙ ap (λ ks. taken_of i name ++ ks) same ∙ sym (taken-append (order_of i.items) name more) in
    record { more = next; fits = rw e fits; cost = rw e cost }

pass : (i : Instance) (name : List ℕ) (v k : ℕ) (ks more : List ℕ) → rest_of i name ≡ k ∷ ks
    → weight_of i.items (taken_of i (name ++ more)) ≤ i.capacity
    → total_value i.items ≤ v + value_of i.items (taken_of i (name ++ more))
    → (j : ℕ) × Contains (choices_at i.items (room_of i name) (k ∷ ks)) j × Reaches i (below name j) v
pass i name v k ks [] rest fits cost = (
  0,
  left_there i.items (room_of i name) k ks,
  go_on i name v 0 [] [] fits cost
      (rw rest (taken-left k ks [] ∙ taken-none ks ∙ sym (taken-none (k ∷ ks)))),
)
pass i name v k ks (zero ∷ more) rest fits cost =
    (0, left_there i.items (room_of i name) k ks, go_on i name v 0 (zero ∷ more) more fits cost refl)
pass i name v k ks (suc d ∷ more) rest fits cost =
    let weight = rw (rest, taken-taken k d ks more) at (weight_of-more i name (suc d ∷ more)) in
    let light : (item_at i.items k).weight ≤ room_of i name = omega (arith, weight, fits) in (
      1,
      taken_there i.items (room_of i name) k ks light,
      go_on i name v 1 (suc d ∷ more) more fits cost
          (rw rest (taken-taken k 0 ks more ∙ sym (taken-taken k d ks more))),
    )

choices-none : (items : List Item) (room : ℕ) → choices_at items room [] ≡ []
unfolding choices_at
choices-none items room = refl

pass_any : (i : Instance) (name : List ℕ) (v : ℕ) (rest : List ℕ) → rest_of i name ≡ rest → Reaches i name v
    → choices_at i.items (room_of i name) rest ≢ [] → (j : ℕ) × Contains (choices_at i.items (room_of i name) rest) j
    × Reaches i (below name j) v
pass_any i name v [] rest r some = absurd (some (choices-none i.items (room_of i name)))
pass_any i name v (k ∷ ks) rest r some = pass i name v k ks r.more rest r.fits r.cost

pub passed_on : (i : Instance) (name : List ℕ) (v : ℕ) → Reaches i name v → children_of i name ≢ [] → (k : ℕ)
    × Contains (children_of i name) k × Reaches i (below name k) v
unfolding children_of
passed_on i name v r some = pass_any i name v (rest_of i name) refl r some

told_apart_at : (b : Bool) → IsDistinct nat_eq (cond b (1 ∷ 0 ∷ []) (0 ∷ []))
unfolding IsDistinct
told_apart_at true = ((refl, tt), (tt, tt))
told_apart_at false = (tt, tt)

told_apart_rest : (items : List Item) (room : ℕ) (rest : List ℕ) → IsDistinct nat_eq (choices_at items room rest)
unfolding choices_at IsDistinct
told_apart_rest items room [] = tt
told_apart_rest items room (k ∷ ks) = told_apart_at (nat_le (item_at items k).weight room)

pub told_apart : (i : Instance) (name : List ℕ) → IsDistinct nat_eq (children_of i name)
unfolding children_of
told_apart i name = told_apart_rest i.items (room_of i name) (rest_of i name)

-- behind the last item nothing is left
pub rest-none : (i : Instance) (name : List ℕ) → length i.items ≤ length name → rest_of i name ≡ []
rest-none i name le =
    drop_of_length-le (order_of i.items) (omega (arith, length-order_below i.items (length i.items), le))

pub children-none : (i : Instance) (name : List ℕ) → length i.items ≤ length name → children_of i name ≡ []
unfolding children_of
children-none i name le =
    ap (choices_at i.items (room_of i name)) (rest-none i name le) ∙ choices-none i.items (room_of i name)

pub ends : (i : Instance) (name : List ℕ) → length i.items ≤ length name → children_of i name ≡ []
ends i name le = children-none i name le

pub attained : (i : Instance) → (choice : List ℕ) × IsFeasible i choice × (cost_of i choice ≡ least_cost i)
attained i =
    let a = best_is_attained i in
    (a.choice, a.feasible, ap (λ v. total_value i.items - v) a.value)

pub least_of_all : (i : Instance) (choice : List ℕ) → IsFeasible i choice → least_cost i ≤ cost_of i choice
least_of_all i choice feasible = omega (arith, best_is_greatest i choice feasible)

-- there are at most two children
two_at : (f : ℕ → ℕ) (m : ℕ) → ((k : ℕ) → f k + 1 ≤ m) → (b : Bool) → total f (cond b (1 ∷ 0 ∷ []) (0 ∷ [])) + 2 ≤ 2 * m
two_at f m each true = omega (arith, each 0, each 1)
two_at f m each false = omega (arith, each 0)

two_children : (f : ℕ → ℕ) (m : ℕ) → ((k : ℕ) → f k + 1 ≤ m) → (items : List Item) (room : ℕ) (rest : List ℕ)
    → total f (choices_at items room rest) + 2 ≤ 2 * m
unfolding choices_at
two_children f m each items room [] = omega (arith, each 0)
two_children f m each items room (k ∷ ks) = two_at f m each (nat_le (item_at items k).weight room)

power-suc : (n : ℕ) → 2 ^ (suc n + 1) ≡ 2 * 2 ^ (n + 1)
power-suc n =
    let e : suc n + 1 ≡ 1 + (n + 1) = omega arith in
    rw e (pow-add 2 1 (n + 1))

names-below : (i : Instance) (more : ℕ) (name : List ℕ) → nodes_from (tree_of i) more name + 1 ≤ 2 ^ (more + 1)
unfolding children_of
names-below i zero name = omega arith
names-below i (suc more) name =
    let two = two_children (λ k. nodes_from (tree_of i) more (below name k)) (2 ^ (more + 1))
    (λ k. names-below i more (below name k)) i.items (room_of i name) (rest_of i name) in
    omega (arith, two, power-suc more)

under_min : (a b n : ℕ) → min a b < b → n ≤ a → n ≤ min a b
under_min a b n lt le = omega (arith, lt, le)

pub counted : (i : Instance) → tree_size i < 2 ^ 64 → node_count (tree_of i) ≤ tree_size i
counted i small =
    let few = names-below i (length i.items) [] in
    under_min (2 ^ (length i.items + 1)) (2 ^ 64) (node_count (tree_of i)) small (omega (arith, few))

pub is_lawful : (i : Instance) → IsLawful (meaning_of i)
is_lawful i = record {
  reached = λ choice feasible. reached i choice feasible;
  bounded = λ name v r. bounded i name v r;
  passed_on = λ name v r some. passed_on i name v r some;
  told_apart = λ name. told_apart i name;
  ends = λ name le. ends i name le;
  attained = attained i;
  least_of_all = λ choice feasible. least_of_all i choice feasible;
  counted = counted i;
}

pub lawful : (i : Instance) → IsInstance i → IsLawful (meaning_of i)
lawful i limits = is_lawful i
