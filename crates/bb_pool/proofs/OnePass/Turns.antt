-- The turns of a search with one caller, by its fields.
use Rattle.std.proofs.Common.{◌≡◌, ℕ, ◌+◌, ◌<◌, ◌≤◌, true, false, List, [], ◌∷◌, ◌++◌, length, map, set, Some, None, Option, refl, sym, ap, ◌∙◌, subst, inl, inr, arith}
use Rattle.std.specs.Prelude.{All, IsTrue}
use Rattle.std.proofs.lemmas.Bool.{cases_lt}
use Rattle.std.proofs.lemmas.List.{length-append, length-set}
use Rattle.std.proofs.lemmas.List.Elements.{All-head, All-weaker}
use Rattle.pq_words.specs.declared.entries.Entry.{Entry}
use Rattle.pq_words.specs.Limits.{key_limit}
use Rattle.pq_model.specs.declared.passes.Known.{Known}
use Rattle.pq_model.specs.Multiset.{IsRising}
use Rattle.pq_model.proofs.Multisets.{length-add}
use Rattle.bb_pool.specs.OneSeat.{held}
use Rattle.bb_problem.specs.Limits.{size_limit}
use Rattle.bb_problem.specs.Tree.{below, needed}
use Rattle.bb_problem.specs.Meaning.{Meaning, IsLawful}
use Rattle.bb_problem.specs.declared.step.Step.{Step}
use Rattle.bb_problem.specs.declared.step.Step.TheVariants.{Leaf, Branch}
use Rattle.bb_problem.specs.Expanding.{StandBelow, IsExpanded, IsInRange}
use Rattle.std.specs.Prelude.{Vec}
use Rattle.std.specs.declared.alloc.Global.{Global}
use Rattle.bb_shared.specs.declared.control.stop.Stop.{Stop}
use Rattle.bb_shared.specs.declared.control.stop.Stop.TheVariants.{NodeLimit, Full, NoMemory}
use Rattle.bb_pool.specs.declared.child.Child.{Child}
use Rattle.bb_pool.specs.declared.found.Found.{Found}
use Rattle.bb_pool.specs.Limits.{max_nodes}
use Rattle.bb_pool.specs.Costs.{is_better, limit_of, IsAtLeast}
use Rattle.bb_pool.specs.Endings.{EndsAt, IsFullMark}
use Rattle.bb_pool.specs.Outcomes.{IsStop, IsOutcome, IfNodeLimit, outcome_of}
use Rattle.bb_pool.specs.Children.{StandAt, better_names}
use Rattle.bb_pool.specs.Searching.{name_at, StandsFor, IsSearching}
use Rattle.bb_pool.specs.Underway.{State, cost_so_far, IsFound, IsUnderway, IsPut, IsNotPut, IsStored, IsTaken, IsSpent, IsOver, best_outcome}
use Rattle.bb_pool.proofs.Costs.{better_below, not_below_itself, below_better, below_limit}
use Rattle.bb_pool.proofs.Needs.{unavoidable_leaf, open_leaf}
use Rattle.bb_pool.proofs.Counts.{ahead_dropped, ahead_found}
use Rattle.bb_pool.proofs.Ending.{none_better}
use Rattle.bb_pool.proofs.Searches.{node_put, node_closed, key_at_most_least, node_branched, better_kept, some_best, best_is_least, around_is_made}

-- the same search, by equal parts
pub same_search : {N P : Type 0} {m : Meaning N P} {capacity : ℕ} {names : List (List ℕ)} {entries entries' : List Entry} {store store' : List (Option N)} {waiting : List (List ℕ)} {best best' : Option ℕ}
    → entries ≡ entries' → store ≡ store' → best ≡ best' → IsSearching m capacity names entries store waiting best → IsSearching m capacity names entries' store' waiting best'
same_search {N} {P} {m} {capacity} {names} {entries} {entries'} {store} {store'} {waiting} {best} {best'} e f g s =
    subst (λ (b : Option ℕ). IsSearching m capacity names entries' store' waiting b) g
    (subst (λ (x : List (Option N)). IsSearching m capacity names entries' x waiting best) f
    (subst (λ (es : List Entry). IsSearching m capacity names es store waiting best) e s))

-- a plan that was found costs no less than the least
pub found_above : {N P : Type 0} {m : Meaning N P} (best : Option (Found P)) → IsLawful m → IsFound m best → IsAtLeast m.least (cost_so_far best)
found_above None laws found = tt
found_above (Some f) laws found = let least = laws.least_of_all f.plan found.0 in let cost = found.1 in omega arith

-- a node that waits is put
pub put_underway : {N P : Type 0} {m : Meaning N P} {nodes capacity : ℕ} {before now : State N P}
    (name : List ℕ) (waiting : List (List ℕ)) (key : ℕ) (node : N) → IsUnderway m nodes capacity before (name ∷ waiting) → IsPut before key node now → m.stands node name → key ≡ m.tree.bound name → length before.store < nodes
    → IsUnderway m nodes capacity now waiting
put_underway {m} {before} {now} name waiting key node u p st bound room =
    let longer : length now.store ≡ length before.store + 1 = ap length p.stored ∙ length-append before.store (Some node ∷ []) in
    let more : length (held now.queue) ≡ length (held before.queue) + 1 = ap length p.added ∙ length-add p.entry (held before.queue) in
    record {
      lawful = u.lawful;
      names = u.names ++ name ∷ [];
      searching = same_search (sym p.added) (sym p.stored) (ap cost_so_far (sym p.best))
          (node_put name waiting node p.entry u.searching st (p.key_is ∙ bound) p.id (let has = p.room in let is = u.capacity_is in omega arith));
      found = subst (λ (f : Option (Found _)). IsFound m f) (sym p.best) u.found;
      calls = let calls = u.calls in let made = p.calls in omega arith;
      number = p.number ∙ u.number;
      within = omega arith;
      capacity_is = p.capacity ∙ u.capacity_is;
    }

-- a node that waits is not put
pub stop_not_put : {N P : Type 0} (m : Meaning N P) (nodes capacity : ℕ) (before : State N P)
    (name : List ℕ) (waiting : List (List ℕ)) (stop : Stop) → IsUnderway m nodes capacity before (name ∷ waiting) → IsNotPut before stop → length before.store < nodes
    → IsStop m nodes capacity stop
stop_not_put m nodes capacity before name waiting (NodeLimit asked) u why room = absurd why
stop_not_put m nodes capacity before name waiting NoMemory u why room = tt
stop_not_put m nodes capacity before name waiting (Full place) u why room =
    let calls = u.calls in let few = u.searching.few in let budget = u.searching.counted.budget in let capacity_is = u.capacity_is in let full = why.0 in let at = why.1 in
    record { below_limit = omega arith; below_needed = omega arith; from = omega arith; until = omega arith; told = subst (λ (c : ℕ). IsFullMark 1 c place) u.capacity_is why.2 }

-- the search as it stands once its least entry is removed and its node is not yet expanded
taken_searching : {N P : Type 0} {m : Meaning N P} {nodes capacity : ℕ} {before now : State N P} {child : Child N}
    (u : IsUnderway m nodes capacity before []) → (t : IsTaken before child now) → IsSearching m capacity u.names (t.entry ∷ held now.queue) before.store [] (cost_so_far before.best)
taken_searching u t = same_search t.first refl refl u.searching

-- the node taken has the name of the entry's number
taken_stands : {N P : Type 0} {m : Meaning N P} {nodes capacity : ℕ} {before now : State N P} {child : Child N}
    (u : IsUnderway m nodes capacity before []) → (t : IsTaken before child now) → m.stands child.node (name_at u.names t.entry.id)
taken_stands {m} {before} {now} {child} u t = let f = All-head (StandsFor m u.names before.store) t.entry (held now.queue) (taken_searching u t).each in
    let stored = f.stored in let there = t.node in let same : f.node ≡ child.node = cc in subst (λ n. m.stands n (name_at u.names t.entry.id)) same f.named

-- the search after the node was dealt with
taken_underway : {N P : Type 0} {m : Meaning N P} {nodes capacity : ℕ} {before now : State N P} {child : Child N}
    (waiting : List (List ℕ)) (best : Option (Found P)) (u : IsUnderway m nodes capacity before []) → (t : IsTaken before child now)
    → IsFound m best → IsSearching m capacity u.names (held now.queue) (set before.store t.entry.id None) waiting (cost_so_far best)
    → IsUnderway m nodes capacity (record now { best = best }) waiting
taken_underway {before} {now} waiting best u t found s =
    let same : length now.store ≡ length before.store = ap length t.emptied ∙ length-set before.store t.entry.id None in
    let fewer : length (held before.queue) ≡ length (held now.queue) + 1 = let is = ap length t.first in omega arith in
    record {
      lawful = u.lawful;
      names = u.names;
      searching = same_search refl (sym t.emptied) refl s;
      found = found;
      calls = let calls = u.calls in let made = t.calls in omega arith;
      number = t.number ∙ u.number;
      within = let within = u.within in omega arith;
      capacity_is = t.capacity ∙ u.capacity_is;
    }

unchanged : {N P : Type 0} {m : Meaning N P} {nodes capacity : ℕ} {before now : State N P} {child : Child N} {waiting : List (List ℕ)}
    → IsTaken before child now → IsUnderway m nodes capacity (record now { best = before.best }) waiting → IsUnderway m nodes capacity now waiting
unchanged {N} {P} {m} {nodes} {capacity} {now} {waiting} t u = subst (λ (b : Option (Found P)). IsUnderway m nodes capacity (record now { best = b }) waiting) (sym t.best) u

-- a test of the best cost after the node was taken is one of that before
before_taken : {N P : Type 0} {before now : State N P} {child : Child N} (v : ℕ) (b : _) → IsTaken before child now → is_better v (cost_so_far now.best) ≡ b → is_better v (cost_so_far before.best) ≡ b
before_taken v b t is = subst (λ f. is_better v (cost_so_far f) ≡ b) t.best is

-- the expansion of the node that was taken, by its name
taken_expands : {N P : Type 0} {m : Meaning N P} {nodes capacity : ℕ} {before now : State N P} {child : Child N} {step was : Step P N}
    (u : IsUnderway m nodes capacity before []) → (t : IsTaken before child now) → ((name : List ℕ) → m.stands child.node name → IsExpanded m name was) → was ≡ step → IsExpanded m (name_at u.names t.entry.id) step
taken_expands {m} u t expanded is = let name : List ℕ = name_at u.names t.entry.id in subst (IsExpanded m name) is (expanded name (taken_stands u t))

-- the node was a leaf whose plan is no better than the best
pub leaf_left : {N P : Type 0} {m : Meaning N P} {nodes capacity : ℕ} {before now : State N P} (child : Child N) (plan : P) (cost : ℕ) (step : Step P N)
    → IsUnderway m nodes capacity before [] → IsTaken before child now → ((name : List ℕ) → m.stands child.node name → IsExpanded m name step) → step ≡ Leaf plan → cost ≡ m.cost_of plan → is_better cost (cost_so_far now.best) ≡ false
    → IsUnderway m nodes capacity now []
leaf_left {m} {nodes} {capacity} {before} {now} child plan cost step u t expanded is same worse =
    let name : List ℕ = name_at u.names t.entry.id in
    let leaf = taken_expands {step = Leaf plan} u t expanded is in
    let bad : is_better cost (cost_so_far before.best) ≡ false = before_taken cost false t worse in
    unchanged t (taken_underway [] before.best u t u.found
    (node_closed t.entry (cost_so_far before.best) (taken_searching u t) (λ v better. better)
    (λ v r better. let low = leaf.2 v r in let good = better_below cost v (cost_so_far before.best) (omega arith) better in cc)
    (unavoidable_leaf m.tree m.least name leaf.0) (ahead_dropped m.tree capacity u.names (held now.queue) t.entry cost (cost_so_far before.best) bad (taken_searching u t).counted.ahead)))

-- the node was a leaf whose plan is better than the best
pub leaf_found : {N P : Type 0} {m : Meaning N P} {nodes capacity : ℕ} {before now : State N P} (child : Child N) (plan : P) (cost : ℕ) (fits : cost < key_limit) (step : Step P N)
    → IsUnderway m nodes capacity before [] → IsTaken before child now → ((name : List ℕ) → m.stands child.node name → IsExpanded m name step) → step ≡ Leaf plan → cost ≡ m.cost_of plan → is_better cost (cost_so_far now.best) ≡ true
    → IsUnderway m nodes capacity (record now { best = Some (record { plan = plan; cost = cost; cost_fits = fits }) }) []
leaf_found {m} {nodes} {capacity} {before} {now} child plan cost fits step u t expanded is same better =
    let name : List ℕ = name_at u.names t.entry.id in
    let leaf = taken_expands {step = Leaf plan} u t expanded is in
    let good : is_better cost (cost_so_far before.best) ≡ true = before_taken cost true t better in
    let s = taken_searching u t in
    taken_underway [] (Some (record { plan = plan; cost = cost; cost_fits = fits })) u t (leaf.1, same)
    (node_closed t.entry (Some cost) s (λ v less. below_better cost v (cost_so_far before.best) good less)
    (λ v r less. not_below_itself cost v (let low = leaf.2 v r in omega arith) less)
    (unavoidable_leaf m.tree m.least name leaf.0) (ahead_found m.tree capacity u.names (held now.queue) t.entry (cost_so_far before.best) s.fits (open_leaf m.tree name leaf.0) s.counted.ahead))

below_stand : {N : Type 0} (stands : N → List ℕ → Type 0) (name : List ℕ) (nodes : List N) (ks : List ℕ) → StandBelow stands name nodes ks → StandAt stands nodes (map (below name) ks)
below_stand stands name [] [] all = tt
below_stand stands name (n ∷ ns) (k ∷ ks) all = (all.0, below_stand stands name ns ks all.1)
below_stand stands name [] (k ∷ ks) all = absurd all
below_stand stands name (n ∷ ns) [] all = absurd all

some_below : {N : Type 0} (stands : N → List ℕ → Type 0) (name : List ℕ) (nodes : List N) (ks : List ℕ) → StandBelow stands name nodes ks → 1 ≤ length nodes → 1 ≤ length ks
some_below stands name [] ks all some = absurd (omega arith)
some_below stands name (n ∷ ns) [] all some = absurd all
some_below stands name (n ∷ ns) (k ∷ ks) all some = omega arith

-- the node was a branch, whose children wait
pub branched : {N P : Type 0} {m : Meaning N P} {nodes capacity : ℕ} {before now : State N P} (child : Child N) (children : Vec N Global) (step : Step P N)
    → IsUnderway m nodes capacity before [] → IsTaken before child now → IsRising (held before.queue)
    → ((name : List ℕ) → m.stands child.node name → IsExpanded m name step) → IsInRange m.cost_of step → step ≡ Branch children
    → (waiting : List (List ℕ)) × StandAt m.stands children.items waiting × IsUnderway m nodes capacity now waiting
branched {m} {before} {now} child children step u t rising expanded range is = let name : List ℕ = name_at u.names t.entry.id in
    let stand = taken_expands {step = Branch children} u t expanded is in
    let some = subst (IsInRange m.cost_of) is range in
    let good : is_better child.key (cost_so_far before.best) ≡ true = below_limit child.key (cost_so_far before.best) t.better in
    let low = key_at_most_least (cost_so_far before.best) t.entry u.lawful (taken_searching u t) (subst IsRising t.first rising) (subst (λ (n : ℕ). IsTrue (is_better n (cost_so_far before.best))) t.key good) in
    let waiting : List (List ℕ) = map (below name) (m.tree.children name) in (
      waiting,
      below_stand m.stands name children.items (m.tree.children name) stand,
      unchanged t (taken_underway waiting before.best u t u.found (node_branched t.entry u.lawful (taken_searching u t) low (some_below m.stands name children.items (m.tree.children name) stand some.0))),
    )

-- of those that wait, those that are not better are left out
pub left_out : {N P : Type 0} {m : Meaning N P} {nodes capacity : ℕ} {search : State N P} (waiting : List (List ℕ))
    → IsUnderway m nodes capacity search waiting → IsUnderway m nodes capacity search (better_names m.tree (cost_so_far search.best) waiting)
left_out {search} waiting u = record {
  lawful = u.lawful;
  names = u.names;
  searching = better_kept waiting (cost_so_far search.best) u.lawful (found_above search.best u.lawful u.found) u.searching;
  found = u.found;
  calls = u.calls;
  number = u.number;
  within = u.within;
  capacity_is = u.capacity_is;
}

-- each entry has its node in the store
pub each_stored : {N P : Type 0} {m : Meaning N P} {nodes capacity : ℕ} {search : State N P} {waiting : List (List ℕ)}
    → IsUnderway m nodes capacity search waiting → All (IsStored search.store) (held search.queue)
each_stored {m} {search} u = All-weaker (StandsFor m u.names search.store) (IsStored search.store) (λ e s. (s.node, s.stored)) (held search.queue) u.searching.each

-- no entry was left below the best cost
spent_keys : {N P : Type 0} {m : Meaning N P} {nodes capacity : ℕ} {before now : State N P}
    → IsUnderway m nodes capacity before [] → IsSpent before now → IsRising (held before.queue) → All (λ (e : Entry). is_better e.key (cost_so_far before.best) ≡ false) (held before.queue)
spent_keys {before} u t rising = none_better (cost_so_far before.best) (held before.queue) rising t.high

over_by : {N P : Type 0} {m : Meaning N P} {nodes capacity : ℕ} {before : State N P} (best : Option (Found P)) (known : Known)
    → IsUnderway m nodes capacity before [] → best ≡ before.best → All (λ (e : Entry). is_better e.key (cost_so_far best) ≡ false) (held before.queue) → EndsAt 1 capacity (limit_of (cost_so_far best)) known → IsOver m nodes capacity best known
over_by None known u is none ended = some_best u.lawful (same_search refl refl (ap cost_so_far (sym is)) u.searching) none
over_by {m} {before} (Some found) known u is none ended = let f : IsFound m (Some found) = subst (IsFound m) (sym is) u.found in
    let s = same_search refl refl (ap cost_so_far (sym is)) u.searching in
    let made = around_is_made (Some found.cost) (found_above (Some found) u.lawful f) s none in
    let within = u.within in
    record {
      optimal = record { feasible_is = f.0; cost_is = f.1; least = λ other ok. best_is_least found.cost other u.lawful s none ok };
      limits = record { for_nodes = omega arith; for_open = s.counted.ahead };
      ended = ended;
    }

-- the search is over
pub over : {N P : Type 0} (m : Meaning N P) (nodes capacity : ℕ) (before now : State N P)
    → IsUnderway m nodes capacity before [] → IsSpent before now → IsRising (held before.queue) → IsOver m nodes capacity now.best now.queue.known
over m nodes capacity before now u t rising =
    let ended = subst (λ (c : ℕ). EndsAt 1 c (limit_of (cost_so_far before.best)) now.queue.known) u.capacity_is t.ended in
    over_by now.best now.queue.known u t.best (subst (λ b. All (λ (e : Entry). is_better e.key (cost_so_far b) ≡ false) (held before.queue)) (sym t.best) (spent_keys u t rising))
    (subst (λ b. EndsAt 1 capacity (limit_of (cost_so_far b)) now.queue.known) (sym t.best) ended)

pub over_outcome : {N P : Type 0} (m : Meaning N P) (nodes capacity : ℕ) (best : Option (Found P)) (known : Known) → IsOver m nodes capacity best known → IsOutcome m nodes capacity (best_outcome best)
over_outcome m nodes capacity None known is = absurd is
over_outcome m nodes capacity (Some found) known is = (known, is)

-- the same search, by an equal capacity
pub same_capacity : {N P : Type 0} {m : Meaning N P} {nodes capacity other : ℕ} {search : State N P} {waiting : List (List ℕ)}
    → capacity ≡ other → IsUnderway m nodes capacity search waiting → IsUnderway m nodes other search waiting
same_capacity {m} {nodes} {search} {waiting} is u = subst (λ (c : ℕ). IsUnderway m nodes c search waiting) is u

-- a limit that is asked to be passed is below the size of the tree
pub stop_below_size : {N P : Type 0} (m : Meaning N P) (nodes capacity : ℕ) (stop : Stop) → IsStop m nodes capacity stop → (m.tree_size < size_limit → needed m.tree m.least ≤ m.tree_size) → nodes ≤ max_nodes
    → IfNodeLimit {P = P} (outcome_of stop nodes) (λ asked limit. limit < m.tree_size)
stop_below_size m nodes capacity (NodeLimit asked) is sized few = elim (cases_lt m.tree_size size_limit) [
  | inl small ↦ let enough = sized small in let over = is.over in let within = is.within in omega arith
  | inr large ↦ omega arith
]
stop_below_size m nodes capacity (Full place) is sized few = tt
stop_below_size m nodes capacity NoMemory is sized few = tt

-- and no more nodes were asked for than the tree has
pub stop_within_size : {N P : Type 0} (m : Meaning N P) (nodes capacity : ℕ) (stop : Stop) → IsStop m nodes capacity stop → (m.tree_size < size_limit → needed m.tree m.least ≤ m.tree_size)
    → IfNodeLimit {P = P} (outcome_of stop nodes) (λ asked limit. m.tree_size < size_limit → asked ≤ m.tree_size)
stop_within_size m nodes capacity (NodeLimit asked) is sized = λ small. let enough = sized small in let within = is.within in omega arith
stop_within_size m nodes capacity (Full place) is sized = tt
stop_within_size m nodes capacity NoMemory is sized = tt
