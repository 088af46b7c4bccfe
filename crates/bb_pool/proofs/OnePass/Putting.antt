-- The children of a branch are put, one after another.
use Rattle.std.proofs.Common.{◌≡◌, ℕ, ◌+◌, ◌<◌, ◌≤◌, true, false, List, [], ◌∷◌, length, drop, get_or, Some, Option, refl, sym, ap, ◌∙◌, subst, inl, inr, arith}
use Rattle.std.proofs.lemmas.Bool.{cases_Bool}
use Rattle.std.proofs.lemmas.List.{length-append, length-drop, drop_more}
use Rattle.bb_problem.specs.Tree.{needed}
use Rattle.bb_problem.specs.Meaning.{Meaning}
use Rattle.bb_shared.specs.declared.control.stop.Stop.{Stop}
use Rattle.bb_pool.specs.Costs.{is_better}
use Rattle.bb_pool.specs.Children.{StandAt, AreBounds, better_keys, better_names}
use Rattle.bb_pool.specs.Outcomes.{IsStop}
use Rattle.bb_pool.specs.Searching.{need_at}
use Rattle.bb_pool.specs.Underway.{State, cost_so_far, IsUnderway, IsPut, IsNotPut}
use Rattle.bb_pool.proofs.Totals.{length-total}
use Rattle.bb_pool.proofs.Bounds.{bounds_length, names_kept, names_left, keys_kept, keys_left}
use Rattle.bb_pool.proofs.OnePass.Turns.{put_underway, stop_not_put, left_out}

-- The search while children of a branch are put: these nodes are still to be looked at, with these bounds, and so many
-- calls had been made before.
pub record IsPutting {N P : Type 0} (m : Meaning N P) (nodes capacity made : ℕ) (best : Option ℕ) (search : State N P) (rest : List N) (keys : List ℕ) : Type 0 where
  pub names : List (List ℕ)
  pub stand : StandAt m.stands rest names
  pub bounds : AreBounds m rest keys
  pub underway : IsUnderway m nodes capacity search (better_names m.tree best names)
  pub room : length search.store + length (better_keys best keys) ≤ nodes
  pub calls : made ≤ length search.queue.known.calls
  pub best_is : best ≡ cost_so_far search.best

-- as many names are kept as keys
as_many : {N P : Type 0} (m : Meaning N P) (best : Option ℕ) (rest : List N) (names : List (List ℕ)) (keys : List ℕ) → StandAt m.stands rest names → AreBounds m rest keys → length (better_names m.tree best names) ≡ length (better_keys best keys)
as_many m best [] [] [] stand bounds = refl
as_many m best (x ∷ xs) (n ∷ ns) (k ∷ ks) stand bounds = let same = bounds.0 n stand.0 in let tail = as_many m best xs ns ks stand.1 bounds.1 in
    elim (cases_Bool (is_better k best)) [
      | inl good ↦ let name = ap length (names_kept m best n ns k same good) in let key = keys_kept best k ks good in omega arith
      | inr bad ↦ let name = ap length (names_left m best n ns k same bad) in let key = keys_left best k ks bad in omega arith
    ]
as_many m best [] (n ∷ ns) keys stand bounds = absurd stand
as_many m best (x ∷ xs) [] keys stand bounds = absurd stand
as_many m best [] [] (k ∷ ks) stand bounds = absurd bounds
as_many m best (x ∷ xs) (n ∷ ns) [] stand bounds = absurd bounds

-- The children of a branch wait.
abbrev pub Waits : {N P : Type 0} → Meaning N P → ℕ → ℕ → State N P → List N → Type 0
Waits m nodes capacity search children = (waiting : List (List ℕ)) × StandAt m.stands children waiting × IsUnderway m nodes capacity search waiting

-- more nodes are asked for than the limit is, and no more than are needed
pub too_many : {N P : Type 0} (m : Meaning N P) (nodes capacity : ℕ) (search : State N P) (children : List N) (keys : List ℕ) (best : Option ℕ)
    → Waits m nodes capacity search children → best ≡ cost_so_far search.best → AreBounds m children keys → length search.store + length (better_keys best keys) ≤ needed m.tree m.least
too_many m nodes capacity search children keys best (names, stand, u) is bounds = let waiting : List (List ℕ) = better_names m.tree (cost_so_far search.best) names in
    let same = as_many m best children names keys stand bounds in
    let kept : length (better_names m.tree best names) ≡ length waiting = ap (λ (b : Option ℕ). length (better_names m.tree b names)) is in
    let few = length-total (λ (name : List ℕ). 1 + need_at m.tree m.least name) waiting (λ n. omega arith) in let budget = (left_out names u).searching.counted.budget in omega arith

pub putting_begun : {N P : Type 0} (m : Meaning N P) (nodes capacity : ℕ) (search : State N P) (children : List N) (keys : List ℕ) (best : Option ℕ)
    → Waits m nodes capacity search children → best ≡ cost_so_far search.best → AreBounds m children keys → length search.store + length (better_keys best keys) ≤ nodes
    → IsPutting m nodes capacity (length search.queue.known.calls) best search children keys
putting_begun m nodes capacity search children keys best (names, stand, u) is bounds room = record {
  names = names;
  stand = stand;
  bounds = bounds;
  underway = subst (λ (b : Option ℕ). IsUnderway m nodes capacity search (better_names m.tree b names)) (sym is) (left_out names u);
  room = room;
  calls = omega arith;
  best_is = is;
}

put_first : {N P : Type 0} (m : Meaning N P) (nodes capacity made : ℕ) (best : Option ℕ) (search now : State N P) (node : N) (key : ℕ) (rest : List N) (keys : List ℕ) (names : List (List ℕ))
    → StandAt m.stands (node ∷ rest) names → AreBounds m (node ∷ rest) (key ∷ keys) → IsUnderway m nodes capacity search (better_names m.tree best names) → length search.store + length (better_keys best (key ∷ keys)) ≤ nodes
    → made ≤ length search.queue.known.calls → best ≡ cost_so_far search.best → is_better key best ≡ true → IsPut search key node now → IsPutting m nodes capacity made best now rest keys
put_first m nodes capacity made best search now node key rest keys [] stand bounds u room calls is good p = absurd stand
put_first m nodes capacity made best search now node key rest keys (name ∷ names) stand bounds u room calls is good p =
    let bound = bounds.0 name stand.0 in let kept = keys_kept best key keys good in
    let longer : length now.store ≡ length search.store + 1 = ap length p.stored ∙ length-append search.store (Some node ∷ []) in
    record {
      names = names;
      stand = stand.1;
      bounds = bounds.1;
      underway = put_underway name (better_names m.tree best names) key node (subst (λ w. IsUnderway m nodes capacity search w) (names_kept m best name names key bound good) u) p stand.0 bound (omega arith);
      room = omega arith;
      calls = let more = p.calls in omega arith;
      best_is = is ∙ ap cost_so_far (sym p.best);
    }

-- the first node is kept and put
pub putting_more : {N P : Type 0} {m : Meaning N P} {nodes capacity made : ℕ} {best : Option ℕ} {search now : State N P} (node : N) (key : ℕ) (rest : List N) (keys : List ℕ)
    → IsPutting m nodes capacity made best search (node ∷ rest) (key ∷ keys) → is_better key best ≡ true → IsPut search key node now → IsPutting m nodes capacity made best now rest keys
putting_more {m} {nodes} {capacity} {made} {best} {search} {now} node key rest keys s good p =
    put_first m nodes capacity made best search now node key rest keys s.names s.stand s.bounds s.underway s.room s.calls s.best_is good p

leave_first : {N P : Type 0} (m : Meaning N P) (nodes capacity made : ℕ) (best : Option ℕ) (search : State N P) (node : N) (key : ℕ) (rest : List N) (keys : List ℕ) (names : List (List ℕ))
    → StandAt m.stands (node ∷ rest) names → AreBounds m (node ∷ rest) (key ∷ keys) → IsUnderway m nodes capacity search (better_names m.tree best names) → length search.store + length (better_keys best (key ∷ keys)) ≤ nodes
    → made ≤ length search.queue.known.calls → best ≡ cost_so_far search.best → is_better key best ≡ false → IsPutting m nodes capacity made best search rest keys
leave_first m nodes capacity made best search node key rest keys [] stand bounds u room calls is bad = absurd stand
leave_first m nodes capacity made best search node key rest keys (name ∷ names) stand bounds u room calls is bad =
    let bound = bounds.0 name stand.0 in let left = keys_left best key keys bad in
    record {
      names = names;
      stand = stand.1;
      bounds = bounds.1;
      underway = subst (λ w. IsUnderway m nodes capacity search w) (names_left m best name names key bound bad) u;
      room = omega arith;
      calls = calls;
      best_is = is;
    }

-- or left out
pub putting_less : {N P : Type 0} {m : Meaning N P} {nodes capacity made : ℕ} {best : Option ℕ} {search : State N P} (node : N) (key : ℕ) (rest : List N) (keys : List ℕ)
    → IsPutting m nodes capacity made best search (node ∷ rest) (key ∷ keys) → is_better key best ≡ false → IsPutting m nodes capacity made best search rest keys
putting_less {m} {nodes} {capacity} {made} {best} {search} node key rest keys s bad =
    leave_first m nodes capacity made best search node key rest keys s.names s.stand s.bounds s.underway s.room s.calls s.best_is bad

stop_first : {N P : Type 0} (m : Meaning N P) (nodes capacity : ℕ) (best : Option ℕ) (search : State N P) (node : N) (key : ℕ) (rest : List N) (keys : List ℕ) (names : List (List ℕ)) (stop : Stop)
    → StandAt m.stands (node ∷ rest) names → AreBounds m (node ∷ rest) (key ∷ keys) → IsUnderway m nodes capacity search (better_names m.tree best names) → length search.store + length (better_keys best (key ∷ keys)) ≤ nodes
    → is_better key best ≡ true → IsNotPut search stop → IsStop m nodes capacity stop
stop_first m nodes capacity best search node key rest keys [] stop stand bounds u room good why = absurd stand
stop_first m nodes capacity best search node key rest keys (name ∷ names) stop stand bounds u room good why =
    let bound = bounds.0 name stand.0 in let kept = keys_kept best key keys good in
    stop_not_put m nodes capacity search name (better_names m.tree best names) stop (subst (λ w. IsUnderway m nodes capacity search w) (names_kept m best name names key bound good) u) why (omega arith)

-- or stops the search
pub putting_stops : {N P : Type 0} (m : Meaning N P) (nodes capacity made : ℕ) (best : Option ℕ) (search : State N P) (node : N) (key : ℕ) (rest : List N) (keys : List ℕ) (stop : Stop)
    → IsPutting m nodes capacity made best search (node ∷ rest) (key ∷ keys) → is_better key best ≡ true → IsNotPut search stop → IsStop m nodes capacity stop
putting_stops m nodes capacity made best search node key rest keys stop s good why =
    stop_first m nodes capacity best search node key rest keys s.names stop s.stand s.bounds s.underway s.room good why

-- the first of the bounds that are left is that of the node at hand
pub first_key : (keys : List ℕ) (place d : ℕ) → place < length keys → drop place keys ≡ get_or keys place d ∷ drop (place + 1) keys
first_key keys place d lt = drop_more keys place d lt

-- a node is left, so a key is left
pub some_key : {N P : Type 0} {m : Meaning N P} {nodes capacity made : ℕ} {best : Option ℕ} {search : State N P} (rest : List N) (keys : List ℕ) (place : ℕ) → IsPutting m nodes capacity made best search rest (drop place keys) → 1 ≤ length rest → place < length keys
some_key {m} rest keys place s some = let same = bounds_length m rest (drop place keys) s.bounds in let left = length-drop place keys in omega arith

none_wait : {N : Type 0} (stands : N → List ℕ → Type 0) (names : List (List ℕ)) → StandAt stands [] names → names ≡ []
none_wait stands [] stand = refl
none_wait stands (name ∷ names) stand = absurd stand

-- all children are put
pub all_put : {N P : Type 0} {m : Meaning N P} {nodes capacity made : ℕ} {best : Option ℕ} {search : State N P} {rest : List N} {keys : List ℕ}
    → rest ≡ [] → IsPutting m nodes capacity made best search rest keys → IsUnderway m nodes capacity search []
all_put {m} {nodes} {capacity} {best} {search} none p =
    let names = none_wait m.stands p.names (subst (λ xs. StandAt m.stands xs p.names) none p.stand) in
    subst (λ (waiting : List (List ℕ)). IsUnderway m nodes capacity search (better_names m.tree best waiting)) names p.underway
