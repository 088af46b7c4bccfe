-- The path of a walk, and the nodes that it leads to.
use Rattle.std.proofs.Common.{◌≡◌, ℕ, suc, ◌+◌, ◌-◌, ◌<◌, ◌≤◌, Bool, true, false, List, [], ◌∷◌, ◌++◌, map, inl, inr, refl, sym, ap, ◌∙◌, subst, length, take, drop, get_or, arith}
use Rattle.std.proofs.lemmas.List.{append_assoc, append-nil, take_more, take-append-drop, get_or-drop, length-drop, length-take-le, length_push}
use Rattle.std.specs.Prelude.{IsTrue, ◌↔◌, leb}
use Rattle.std.proofs.lemmas.Bool.{cases_lt, leb-true, le-leb}
use Rattle.inst_text.specs.Limits.{max_total}
use Rattle.inst_text.specs.Knapsack.{Instance, IsInstance, total_value}
use Rattle.bb_problem.specs.Tree.{below}
use Rattle.bb_knap.specs.Plans.{item_at, weight_of, value_of}
use Rattle.bb_knap.specs.Order.{order_of}
use Rattle.bb_knap.specs.Branching.{taken, taken_of, rest_of, room_of, dantzig, bound_of, children_of, Node, Stands}
use Rattle.bb_knap.specs.Walking.{Walk, names_below, decision, decisions, left_instead, pending_at, LeadsTo, IsLastTaken}
use Rattle.bb_knap.specs.TreeLawsHold.Taken.{taken-taken, taken-left}
use Rattle.bb_knap.specs.TreeLawsHold.Dantzig.{taken-none}
use Rattle.bb_knap.specs.TreeLawsHold.Tree.{weight_of-more, value_of-more, ends}
use Rattle.bb_knap.proofs.Expanded.{next_of, next_is, leaves_next, children-both, children-left, small_taking, stands_taking, stands_leaving}

pub decisions-append : (path more : List Bool) → decisions (path ++ more) ≡ decisions path ++ decisions more
decisions-append [] more = refl
decisions-append (d ∷ path) more = ap (λ ds. decision d ∷ ds) (decisions-append path more)

pub length-decisions : (path : List Bool) → length (decisions path) ≡ length path
length-decisions [] = refl
length-decisions (d ∷ path) = omega (arith, length-decisions path)

-- one item more that is taken, or left
pub left_instead-taken : (name : List ℕ) (path : List Bool) → left_instead name (path ++ true ∷ []) ≡ below (name ++ decisions path) 0 ∷ left_instead name path
unfolding left_instead
left_instead-taken name [] = ap (λ n. below n 0 ∷ []) (sym (append-nil name))
left_instead-taken name (true ∷ path) =
    ap (λ ns. ns ++ below name 0 ∷ []) (left_instead-taken (below name 1) path)
    ∙ ap (λ n. below n 0 ∷ (left_instead (below name 1) path ++ below name 0 ∷ [])) (append_assoc name (1 ∷ []) (decisions path))
left_instead-taken name (false ∷ path) =
    left_instead-taken (below name 0) path
    ∙ ap (λ n. below n 0 ∷ left_instead (below name 0) path) (append_assoc name (0 ∷ []) (decisions path))

pub left_instead-none : (name : List ℕ) (path : List Bool) → ((k : ℕ) → k < length path → get_or path k false ≡ false) → left_instead name path ≡ []
unfolding left_instead
left_instead-none name [] none = refl
left_instead-none name (true ∷ path) none = let h : true ≡ false = none 0 (omega arith) in absurd (cc)
left_instead-none name (false ∷ path) none = left_instead-none (below name 0) path (λ k lt. none (suc k) (omega (arith, lt)))

left_instead-behind : (name : List ℕ) (path more : List Bool) → ((k : ℕ) → k < length more → get_or more k false ≡ false) → left_instead name (path ++ more) ≡ left_instead name path
unfolding left_instead
left_instead-behind name [] more none = left_instead-none name more none
left_instead-behind name (true ∷ path) more none = ap (λ ns. ns ++ below name 0 ∷ []) (left_instead-behind (below name 1) path more none)
left_instead-behind name (false ∷ path) more none = left_instead-behind (below name 0) path more none

pub left_instead-left : (name : List ℕ) (path : List Bool) → left_instead name (path ++ false ∷ []) ≡ left_instead name path
left_instead-left name path = left_instead-behind name path (false ∷ []) (λ k lt. let e : k ≡ 0 = omega (arith, lt) in rw e refl)

-- a path up to the last item that it takes
later_none : (path : List Bool) (place : ℕ) → IsLastTaken path place → (k : ℕ) → k < length (drop (place + 1) path) → get_or (drop (place + 1) path) k false ≡ false
later_none path place last k lt =
    get_or-drop (place + 1) path k false ∙ last.later (place + 1 + k) (omega arith) (omega (arith, lt, length-drop (place + 1) path))

split_last : (path : List Bool) (place : ℕ) → IsLastTaken path place → path ≡ (take place path ++ true ∷ []) ++ drop (place + 1) path
split_last path place last =
    sym (take-append-drop (place + 1) path)
    ∙ ap (λ xs. xs ++ drop (place + 1) path) (take_more path place false last.inside ∙ ap (λ d. take place path ++ d ∷ []) last.taken)

-- the node behind all that stands under the node of a path: where the last item that it takes is left instead
pub left_instead-last : (path : List Bool) (place : ℕ) → IsLastTaken path place → left_instead [] path ≡ decisions (take place path ++ false ∷ []) ∷ left_instead [] (take place path ++ false ∷ [])
left_instead-last path place last =
    ap (left_instead []) (split_last path place last)
    ∙ left_instead-behind [] (take place path ++ true ∷ []) (drop (place + 1) path) (later_none path place last)
    ∙ left_instead-taken [] (take place path)
    ∙ ap (λ n. n ∷ left_instead [] (take place path)) (sym (decisions-append (take place path) (false ∷ [])))
    ∙ ap (λ ns. decisions (take place path ++ false ∷ []) ∷ ns) (sym (left_instead-left [] (take place path)))

-- decisions that take nothing
taken-all_left : (ks : List ℕ) (path : List Bool) → ((k : ℕ) → k < length path → get_or path k false ≡ false) → taken ks (decisions path) ≡ []
taken-all_left ks [] none = taken-none ks
taken-all_left [] (d ∷ path) none = unfold taken in refl
taken-all_left (k ∷ ks) (true ∷ path) none = let h : true ≡ false = none 0 (omega arith) in absurd (cc)
taken-all_left (k ∷ ks) (false ∷ path) none = taken-left k ks (decisions path) ∙ taken-all_left ks path (λ j lt. none (suc j) (omega (arith, lt)))

decisions_split : (path : List Bool) (place : ℕ) → IsLastTaken path place → decisions path ≡ decisions (take place path) ++ 1 ∷ decisions (drop (place + 1) path)
decisions_split path place last =
    ap decisions (split_last path place last)
    ∙ decisions-append (take place path ++ true ∷ []) (drop (place + 1) path)
    ∙ ap (λ ds. ds ++ decisions (drop (place + 1) path)) (decisions-append (take place path) (true ∷ []))
    ∙ append_assoc (decisions (take place path)) (1 ∷ []) (decisions (drop (place + 1) path))

-- what a path takes: the items up to its last one, and that one
pub record IsSplit (i : Instance) (path : List Bool) (place : ℕ) : Type 0 where
  pub deep : length (decisions (take place path)) ≡ place
  pub inside : place < length i.items
  pub weight : weight_of i.items (taken_of i (decisions path)) ≡ weight_of i.items (taken_of i (decisions (take place path))) + (item_at i.items (get_or (order_of i.items) place 0)).weight
  pub value : value_of i.items (taken_of i (decisions path)) ≡ value_of i.items (taken_of i (decisions (take place path))) + (item_at i.items (get_or (order_of i.items) place 0)).value

pub is_split : (i : Instance) (path : List Bool) (room value place : ℕ) → LeadsTo i path room value → IsLastTaken path place → IsSplit i path place
is_split i path room value place s last =
    let name = decisions (take place path) in
    let more = decisions (drop (place + 1) path) in
    let deep : length name ≡ place = length-decisions (take place path) ∙ length-take-le place path (omega (arith, last.inside)) in
    let inside : length name < length i.items = omega (arith, deep, last.inside, length-decisions path, s.depth) in
    let next : next_of i name ≡ get_or (order_of i.items) place 0 = ap (λ d. get_or (order_of i.items) d 0) deep in
    let takes : taken (rest_of i name) (1 ∷ more) ≡ next_of i name ∷ [] =
    ap (λ ks. taken ks (1 ∷ more)) (next_is i name inside) ∙ taken-taken (next_of i name) 0 (drop (length name + 1) (order_of i.items)) more
    ∙ ap (λ ks. next_of i name ∷ ks) (taken-all_left (drop (length name + 1) (order_of i.items)) (drop (place + 1) path) (later_none path place last)) in
    let same : taken_of i (decisions path) ≡ taken_of i (name ++ 1 ∷ more) = ap (taken_of i) (decisions_split path place last) in
    record {
      deep = deep;
      inside = omega (arith, inside, deep);
      weight = omega (arith, ap (weight_of i.items) same, weight_of-more i name (1 ∷ more), ap (weight_of i.items) takes, ap (λ k. (item_at i.items k).weight) next);
      value = omega (arith, ap (value_of i.items) same, value_of-more i name (1 ∷ more), ap (value_of i.items) takes, ap (λ k. (item_at i.items k).value) next);
    }

-- the path that leaves the last item instead leads to its node
pub leads_left : (i : Instance) (path new : List Bool) (room value place : ℕ) → LeadsTo i path room value → IsLastTaken path place → new ≡ take place path ++ false ∷ []
    → LeadsTo i new (room + (item_at i.items (get_or (order_of i.items) place 0)).weight) (value - (item_at i.items (get_or (order_of i.items) place 0)).value)
leads_left i path new room value place s last is =
    let name = decisions (take place path) in
    let split = is_split i path room value place s last in
    let below_it : decisions new ≡ name ++ 0 ∷ [] = ap decisions is ∙ decisions-append (take place path) (false ∷ []) in
    let inside : length name < length i.items = omega (arith, split.deep, split.inside) in
    let same : taken_of i (decisions new) ≡ taken_of i (name ++ 0 ∷ []) = ap (taken_of i) below_it in
    record {
      decisions = refl;
      depth = omega (arith, ap length below_it, length_push name 0, inside);
      room = omega (arith, s.room, split.weight, ap (weight_of i.items) same, weight_of-more i name (0 ∷ []), ap (weight_of i.items) (leaves_next i name inside));
      value = omega (arith, s.value, split.value, ap (value_of i.items) same, value_of-more i name (0 ∷ []), ap (value_of i.items) (leaves_next i name inside));
    }

-- the node that a path leads to
abbrev pub node_at : List Bool → ℕ → ℕ → Node
node_at path room value = record { decisions = decisions path; room = room; value = value }

abbrev pub walk_of : Instance → List (List ℕ) → Walk
walk_of i pending = record { instance = i; pending = pending }

pub same_walk : (i j : Instance) (ns ms : List (List ℕ)) → i ≡ j → ns ≡ ms → walk_of i ns ≡ walk_of j ms
same_walk i j ns ms e f = ap (λ k. walk_of k ns) e ∙ ap (walk_of j) f

-- what is next of what is pending
pub record IsNext (over : Bool) (path : List Bool) (name : List ℕ) (rest : List (List ℕ)) : Type 0 where
  pub goes_on : over ≡ false
  pub name_is : decisions path ≡ name
  pub rest_is : left_instead [] path ≡ rest

pub is_next : (over : Bool) (path : List Bool) (name : List ℕ) (rest : List (List ℕ)) → pending_at over path ≡ name ∷ rest → IsNext over path name rest
is_next true path name rest e = absurd (cc)
is_next false path name rest e = record { goes_on = refl; name_is = cc; rest_is = cc }

-- a node has no children exactly where its path decides on all items
some_children : (i : Instance) (path : List Bool) (room value : ℕ) (name : List ℕ) → LeadsTo i path room value → decisions path ≡ name → length name < length i.items → children_of i name ≡ [] → ⊥
some_children i path room value name s is inside none =
    let t : Stands i (node_at path room value) name = subst (λ ds. Stands i (node_at path room value) ds) is s in
    elim (cases_lt room (item_at i.items (next_of i name)).weight) [
      | inl heavy ↦ let e = children-left i (node_at path room value) name t inside heavy in absurd (cc)
      | inr fits ↦ let e = children-both i (node_at path room value) name t inside fits in absurd (cc)
    ]

pub leaf_tells : (i : Instance) (path : List Bool) (room value : ℕ) (name : List ℕ) → IsInstance i → LeadsTo i path room value → decisions path ≡ name → IsTrue (leb (length i.items) (length path)) ↔ (children_of i name ≡ [])
leaf_tells i path room value name limits s is =
    let depth : length name ≡ length path = sym (ap length is) ∙ length-decisions path in (
      λ h. ends i name (omega (arith, leb-true (length i.items) (length path) h, depth)),
      λ none. elim (cases_lt (length name) (length i.items)) [
        | inl inside ↦ absurd (some_children i path room value name s is inside none)
        | inr all ↦ le-leb (length i.items) (length path) (omega (arith, all, depth))
      ],
    )

-- the bound of the node that a path leads to
pub bound-at : (i : Instance) (path : List Bool) (room value : ℕ) (name : List ℕ) → LeadsTo i path room value → decisions path ≡ name
    → total_value i.items - value - dantzig i.items room (drop (length path) (order_of i.items)) ≡ bound_of i name
unfolding bound_of
bound-at i path room value name s is =
    let depth : length path ≡ length name = sym (length-decisions path) ∙ ap length is in
    let t : Stands i (node_at path room value) name = subst (λ ds. Stands i (node_at path room value) ds) is s in
    let room_is : room ≡ room_of i name = omega (arith, t.room) in
    let rest = ap (λ r. dantzig i.items r (drop (length path) (order_of i.items))) room_is ∙ ap (λ d. dantzig i.items (room_of i name) (drop d (order_of i.items))) depth in
    omega (arith, t.value, rest)

-- what is pending where the next node is entered
pub entered-both : (i : Instance) (path : List Bool) (room value : ℕ) (name : List ℕ) (rest : List (List ℕ)) → LeadsTo i path room value → decisions path ≡ name → left_instead [] path ≡ rest
    → length path < length i.items → (item_at i.items (get_or (order_of i.items) (length path) 0)).weight ≤ room
    → decisions (path ++ true ∷ []) ∷ left_instead [] (path ++ true ∷ []) ≡ names_below i name ++ rest
entered-both i path room value name rest s is rest_is inside fits =
    let depth : length path ≡ length name = sym (length-decisions path) ∙ ap length is in
    let t : Stands i (node_at path room value) name = subst (λ ds. Stands i (node_at path room value) ds) is s in
    let next = ap (λ d. (item_at i.items (get_or (order_of i.items) d 0)).weight) depth in
    let children = children-both i (node_at path room value) name t (omega (arith, depth, inside)) (omega (arith, next, fits)) in
    ap (λ n. n ∷ left_instead [] (path ++ true ∷ [])) (decisions-append path (true ∷ []) ∙ ap (λ ds. below ds 1) is)
    ∙ ap (λ ns. below name 1 ∷ ns) (left_instead-taken [] path ∙ ap (λ ds. below ds 0 ∷ left_instead [] path) is ∙ ap (λ ns. below name 0 ∷ ns) rest_is)
    ∙ ap (λ ks. map (below name) ks ++ rest) (sym children)

pub entered-left : (i : Instance) (path : List Bool) (room value : ℕ) (name : List ℕ) (rest : List (List ℕ)) → LeadsTo i path room value → decisions path ≡ name → left_instead [] path ≡ rest
    → length path < length i.items → room < (item_at i.items (get_or (order_of i.items) (length path) 0)).weight
    → decisions (path ++ false ∷ []) ∷ left_instead [] (path ++ false ∷ []) ≡ names_below i name ++ rest
entered-left i path room value name rest s is rest_is inside heavy =
    let depth : length path ≡ length name = sym (length-decisions path) ∙ ap length is in
    let t : Stands i (node_at path room value) name = subst (λ ds. Stands i (node_at path room value) ds) is s in
    let next = ap (λ d. (item_at i.items (get_or (order_of i.items) d 0)).weight) depth in
    let children = children-left i (node_at path room value) name t (omega (arith, depth, inside)) (omega (arith, next, heavy)) in
    ap (λ n. n ∷ left_instead [] (path ++ false ∷ [])) (decisions-append path (false ∷ []) ∙ ap (λ ds. below ds 0) is)
    ∙ ap (λ ns. below name 0 ∷ ns) (left_instead-left [] path ∙ rest_is)
    ∙ ap (λ ks. map (below name) ks ++ rest) (sym children)

-- the path with one decision more leads to the child
pub leads_taking : (i : Instance) (path : List Bool) (room value : ℕ) → LeadsTo i path room value → length path < length i.items → (item_at i.items (get_or (order_of i.items) (length path) 0)).weight ≤ room
    → LeadsTo i (path ++ true ∷ []) (room - (item_at i.items (get_or (order_of i.items) (length path) 0)).weight) (value + (item_at i.items (get_or (order_of i.items) (length path) 0)).value)
leads_taking i path room value s inside fits =
    let name = decisions path in
    let depth : length path ≡ length name = sym (length-decisions path) in
    let item = ap (λ d. item_at i.items (get_or (order_of i.items) d 0)) depth in
    let more = decisions-append path (true ∷ []) in
    let child = node_at (path ++ true ∷ []) (room - (item_at i.items (get_or (order_of i.items) (length path) 0)).weight) (value + (item_at i.items (get_or (order_of i.items) (length path) 0)).value) in
    let P : List ℕ → Type 0 = λ ds. Stands i child ds in
    subst P (sym more)
    (stands_taking i (node_at path room value) child name s (omega (arith, depth, inside)) (omega (arith, ap (λ x. x.weight) item, fits)) more
    (ap (λ x. room - x.weight) item) (ap (λ x. value + x.value) item))

pub leads_leaving : (i : Instance) (path : List Bool) (room value : ℕ) → LeadsTo i path room value → length path < length i.items → LeadsTo i (path ++ false ∷ []) room value
leads_leaving i path room value s inside =
    let more = decisions-append path (false ∷ []) in
    let child = node_at (path ++ false ∷ []) room value in
    let P : List ℕ → Type 0 = λ ds. Stands i child ds in
    subst P (sym more) (stands_leaving i (node_at path room value) child (decisions path) s (omega (arith, length-decisions path, inside)) more refl refl)

pub small_at : (i : Instance) (path : List Bool) (room value : ℕ) → IsInstance i → LeadsTo i path room value → length path < length i.items → value + (item_at i.items (get_or (order_of i.items) (length path) 0)).value ≤ max_total
small_at i path room value limits s inside =
    let depth : length path ≡ length (decisions path) = sym (length-decisions path) in
    omega (arith, small_taking i (node_at path room value) (decisions path) limits s (omega (arith, depth, inside)), ap (λ d. (item_at i.items (get_or (order_of i.items) d 0)).value) depth)
