-- What a node expands to.
use Rattle.std.proofs.Common.{◌≡◌, ℕ, ◌+◌, ◌-◌, ◌<◌, ◌≤◌, List, [], ◌∷◌, ◌++◌, refl, sym, ap, ◌∙◌, length, drop, get_or, arith}
use Rattle.std.specs.Prelude.{min}
use Rattle.std.proofs.lemmas.Bool.{le-leb, lt-leb}
use Rattle.std.proofs.lemmas.List.{length_push}
use Rattle.inst_text.specs.declared.knapsack.Item.{Item}
use Rattle.inst_text.specs.Limits.{max_total}
use Rattle.inst_text.specs.Knapsack.{Instance, IsInstance}
use Rattle.bb_problem.specs.Expanding.{StandBelow}
use Rattle.bb_knap.specs.Plans.{item_at, weight_of, value_of, IsFeasible, cost_of}
use Rattle.bb_knap.specs.Order.{order_of}
use Rattle.bb_knap.specs.Branching.{taken, taken_of, rest_of, room_of, choices_at, children_of, Reaches, Node, Stands, IsPlanOf}
use Rattle.bb_knap.specs.TreeLawsHold.InOrder.{length-order_below}
use Rattle.bb_knap.specs.TreeLawsHold.Taken.{taken-none, taken-nothing, taken-left, taken-taken}
use Rattle.bb_knap.specs.TreeLawsHold.Dantzig.{value_of-taken-le}
use Rattle.bb_knap.specs.TreeLawsHold.Tree.{ends, rest-none, weight_of-more, value_of-more}
use Rattle.bb_knap.proofs.Prefixes.{at_place, value_of-order}

-- the next item that decisions have not decided on
abbrev pub next_of : Instance → List ℕ → ℕ
next_of i name = get_or (order_of i.items) (length name) 0

pub next_is : (i : Instance) (name : List ℕ) → length name < length i.items → rest_of i name ≡ next_of i name ∷ drop (length name + 1) (order_of i.items)
next_is i name inside = at_place (order_of i.items) (length name) (omega (arith, length-order_below i.items (length i.items), inside))

choices-both : (items : List Item) (room k : ℕ) (ks : List ℕ) → (item_at items k).weight ≤ room → choices_at items room (k ∷ ks) ≡ 1 ∷ 0 ∷ []
unfolding choices_at
choices-both items room k ks fits = rw (le-leb (item_at items k).weight room fits) refl

choices-left : (items : List Item) (room k : ℕ) (ks : List ℕ) → room < (item_at items k).weight → choices_at items room (k ∷ ks) ≡ 0 ∷ []
unfolding choices_at
choices-left items room k ks heavy = rw (lt-leb (item_at items k).weight room heavy) refl

pub children-both : (i : Instance) (node : Node) (name : List ℕ) → Stands i node name → length name < length i.items → (item_at i.items (next_of i name)).weight ≤ node.room → children_of i name ≡ 1 ∷ 0 ∷ []
unfolding children_of
children-both i node name s inside fits =
    ap (choices_at i.items (room_of i name)) (next_is i name inside)
    ∙ choices-both i.items (room_of i name) (next_of i name) (drop (length name + 1) (order_of i.items)) (omega (arith, s.room, fits))

pub children-left : (i : Instance) (node : Node) (name : List ℕ) → Stands i node name → length name < length i.items → node.room < (item_at i.items (next_of i name)).weight → children_of i name ≡ 0 ∷ []
unfolding children_of
children-left i node name s inside heavy =
    ap (choices_at i.items (room_of i name)) (next_is i name inside)
    ∙ choices-left i.items (room_of i name) (next_of i name) (drop (length name + 1) (order_of i.items)) (omega (arith, s.room, heavy))

-- what one decision more takes
pub takes_next : (i : Instance) (name : List ℕ) → length name < length i.items → taken (rest_of i name) (1 ∷ []) ≡ next_of i name ∷ []
takes_next i name inside =
    ap (λ ks. taken ks (1 ∷ [])) (next_is i name inside) ∙ taken-taken (next_of i name) 0 (drop (length name + 1) (order_of i.items)) []
    ∙ ap (λ ks. next_of i name ∷ ks) (taken-none (drop (length name + 1) (order_of i.items)))

pub leaves_next : (i : Instance) (name : List ℕ) → length name < length i.items → taken (rest_of i name) (0 ∷ []) ≡ []
leaves_next i name inside =
    ap (λ ks. taken ks (0 ∷ [])) (next_is i name inside) ∙ taken-left (next_of i name) (drop (length name + 1) (order_of i.items)) []
    ∙ taken-none (drop (length name + 1) (order_of i.items))

small_min : (n m : ℕ) → n ≤ max_total → m ≡ min n 4294967295 → m ≡ n
small_min n m le e = omega (arith, le, e)

-- what the child that takes the next item is worth
value_taking : (i : Instance) (node : Node) (name : List ℕ) → Stands i node name → length name < length i.items → value_of i.items (taken_of i (name ++ 1 ∷ [])) ≡ node.value + (item_at i.items (next_of i name)).value
value_taking i node name s inside = omega (arith, value_of-more i name (1 ∷ []), ap (value_of i.items) (takes_next i name inside), s.value)

pub small_taking : (i : Instance) (node : Node) (name : List ℕ) → IsInstance i → Stands i node name → length name < length i.items → node.value + (item_at i.items (next_of i name)).value ≤ max_total
small_taking i node name limits s inside =
    omega (arith, value_taking i node name s inside, value_of-taken-le i.items (order_of i.items) (name ++ 1 ∷ []), value_of-order i.items, limits.values)

-- the child that takes the next item
pub stands_taking : (i : Instance) (node child : Node) (name : List ℕ) → Stands i node name → length name < length i.items → (item_at i.items (next_of i name)).weight ≤ node.room
    → child.decisions ≡ node.decisions ++ 1 ∷ [] → child.room ≡ node.room - (item_at i.items (next_of i name)).weight → child.value ≡ node.value + (item_at i.items (next_of i name)).value
    → Stands i child (name ++ 1 ∷ [])
stands_taking i node child name s inside fits decisions room value =
    let weight_more = weight_of-more i name (1 ∷ []) in
    let weight_next = ap (weight_of i.items) (takes_next i name inside) in
    record {
      decisions = decisions ∙ ap (λ ds. ds ++ 1 ∷ []) s.decisions;
      depth = omega (arith, length_push name 1, inside);
      room = omega (arith, weight_more, weight_next, room, fits, s.room);
      value = value ∙ sym (value_taking i node name s inside);
    }

-- the child that leaves it
pub stands_leaving : (i : Instance) (node child : Node) (name : List ℕ) → Stands i node name → length name < length i.items
    → child.decisions ≡ node.decisions ++ 0 ∷ [] → child.room ≡ node.room → child.value ≡ node.value
    → Stands i child (name ++ 0 ∷ [])
stands_leaving i node child name s inside decisions room value =
    let weight_more = weight_of-more i name (0 ∷ []) in
    let value_more = value_of-more i name (0 ∷ []) in
    let weight_next = ap (weight_of i.items) (leaves_next i name inside) in
    let value_next = ap (value_of i.items) (leaves_next i name inside) in
    record {
      decisions = decisions ∙ ap (λ ds. ds ++ 0 ∷ []) s.decisions;
      depth = omega (arith, length_push name 0, inside);
      room = omega (arith, weight_more, weight_next, room, s.room);
      value = omega (arith, value_more, value_next, value, s.value);
    }

-- a plan of decisions on all items is feasible, and what the node reaches costs no less
pub leaf_is : (i : Instance) (node : Node) (name choice : List ℕ) → IsInstance i → Stands i node name → length i.items ≤ length node.decisions → IsPlanOf i node.decisions choice
    → (children_of i name ≡ []) × IsFeasible i choice × ((v : ℕ) → Reaches i name v → cost_of i choice ≤ v)
leaf_is i node name choice limits s deep plan =
    let all : length i.items ≤ length name = omega (arith, deep, ap length s.decisions) in
    let weight : weight_of i.items choice ≡ weight_of i.items (taken_of i name) = plan.weight ∙ ap (λ ds. weight_of i.items (taken_of i ds)) s.decisions in
    let value : value_of i.items choice ≡ value_of i.items (taken_of i name) = plan.value ∙ ap (λ ds. value_of i.items (taken_of i ds)) s.decisions in (
      ends i name all,
      record { chosen = plan.chosen; fits = omega (arith, weight, s.room) },
      λ v r. let none : taken (rest_of i name) r.more ≡ [] = ap (λ ks. taken ks r.more) (rest-none i name all) ∙ taken-nothing r.more in
          omega (arith, r.cost, value_of-more i name r.more, ap (value_of i.items) none, value),
    )

-- both children stand under the node's name
pub both_stand : (i : Instance) (node taking leaving : Node) (name : List ℕ) (nodes : List Node) → IsInstance i → Stands i node name → length name < length i.items → (item_at i.items (next_of i name)).weight ≤ node.room
    → nodes ≡ taking ∷ leaving ∷ []
    → taking.decisions ≡ node.decisions ++ 1 ∷ [] → taking.room ≡ node.room - (item_at i.items (next_of i name)).weight → taking.value ≡ min (node.value + (item_at i.items (next_of i name)).value) 4294967295
    → leaving ≡ record node { decisions = node.decisions ++ 0 ∷ [] }
    → StandBelow (Stands i) name nodes (children_of i name)
both_stand i node taking leaving name nodes limits s inside fits are decisions room value left =
    rw (are, children-both i node name s inside fits) (
      stands_taking i node taking name s inside fits decisions room
          (small_min (node.value + (item_at i.items (next_of i name)).value) taking.value (small_taking i node name limits s inside) value),
      (stands_leaving i node leaving name s inside (ap (λ n. n.decisions) left) (ap (λ n. n.room) left) (ap (λ n. n.value) left), tt),
    )

-- and so does the one child where the next item does not fit
pub one_stands : (i : Instance) (node leaving : Node) (name : List ℕ) (nodes : List Node) → Stands i node name → length name < length i.items → node.room < (item_at i.items (next_of i name)).weight
    → nodes ≡ leaving ∷ []
    → leaving ≡ record node { decisions = node.decisions ++ 0 ∷ [] }
    → StandBelow (Stands i) name nodes (children_of i name)
one_stands i node leaving name nodes s inside heavy are left =
    rw (are, children-left i node name s inside heavy)
    (stands_leaving i node leaving name s inside (ap (λ n. n.decisions) left) (ap (λ n. n.room) left) (ap (λ n. n.value) left), tt)
