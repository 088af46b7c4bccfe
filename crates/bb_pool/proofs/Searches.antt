-- The steps of a search: a node is put, dropped, expanded to a plan or to children, and what an empty queue says.
use Rattle.std.proofs.Common.{◌≡◌, ℕ, ◌+◌, ◌<◌, ◌≤◌, Bool, false, List, [], ◌∷◌, ◌++◌, length, map, set, Some, None, Option, refl, sym, ap, ◌∙◌, subst, inl, inr, arith}
use Rattle.std.specs.Prelude.{All, Contains, slice_get, IsTrue}
use Rattle.std.proofs.lemmas.Bool.{lt-ltb, cases_Bool, cases_lt}
use Rattle.std.proofs.lemmas.List.{length-append, length-set}
use Rattle.std.proofs.lemmas.List.Elements.{All-nil, All-head, All-tail, All-weaker, All-contains}
use Rattle.pq_words.specs.declared.entries.Entry.{Entry}
use Rattle.pq_words.specs.Entries.{raw_of}
use Rattle.pq_model.specs.Multiset.{add, IsRising}
use Rattle.pq_model.proofs.Multisets.{All-add, length-add, least_all}
use Rattle.bb_problem.specs.Tree.{below, unavoidable, total}
use Rattle.bb_problem.specs.Meaning.{Meaning, IsLawful}
use Rattle.bb_pool.specs.Costs.{is_better, IsAtLeast}
use Rattle.bb_pool.specs.Children.{better_names}
use Rattle.bb_pool.specs.Searching.{name_at, need_at, unavoidable_at, StandsFor, AreAhead, IsSearching}
use Rattle.bb_pool.proofs.Costs.{better_below, not_above, not_better}
use Rattle.bb_pool.proofs.Counts.{root_counted, put_counted, closed_counted, branched_counted, kept_counted, all_made}
use Rattle.bb_pool.proofs.Members.{none_in_empty, Contains-here, Contains-cases, Contains-map, Contains-filter, Contains-added, Contains-add, All-both}
use Rattle.bb_pool.proofs.Names.{slice_get-new, name_at-push, name_at-new, id_within, StandsFor-push, StandsFor-set, IdsDiffer-add}
use Rattle.bb_pool.proofs.Needs.{need_branch}

-- the search before the root is put
pub root_waits : {N P : Type 0} (m : Meaning N P) (capacity : ℕ) → IsSearching m capacity [] [] [] ([] ∷ []) None
root_waits m capacity = record {
  count = refl;
  each = All-nil (λ (e : Entry). StandsFor m [] [] e);
  differ = tt;
  few = omega arith;
  fits = omega arith;
  to_find = λ v r better. inr ([], Contains-here [] [], r);
  counted = root_counted m.tree m.least capacity;
}

-- a node that waits is put into the store, and an entry for it into the queue, which has room
pub node_put : {N P : Type 0} {m : Meaning N P} {capacity : ℕ} {names : List (List ℕ)} {entries : List Entry} {store : List (Option N)} {best : Option ℕ}
    (name : List ℕ) (waiting : List (List ℕ)) (node : N) (e : Entry) → IsSearching m capacity names entries store (name ∷ waiting) best → m.stands node name → e.key ≡ m.tree.bound name → e.id ≡ length store → length entries < capacity
    → IsSearching m capacity (names ++ name ∷ []) (add e entries) (store ++ Some node ∷ []) waiting best
node_put {N} {P} {m} {capacity} {names} {entries} {store} {best} name waiting node e s st key id room =
    let now : List (List ℕ) = names ++ name ∷ [] in
    let new_name : name_at now e.id ≡ name = name_at-new names name e.id (s.count ∙ sym id) in
    let old_names : All (λ (f : Entry). name_at now f.id ≡ name_at names f.id) entries =
    All-weaker (StandsFor m names store) (λ (f : Entry). name_at now f.id ≡ name_at names f.id)
    (λ f h. let within = id_within h in let count = s.count in name_at-push names name f.id (omega arith)) entries s.each in
    let old_name : (f : Entry) → Contains entries f → name_at now f.id ≡ name_at names f.id = λ f there. All-contains (λ (g : Entry). name_at now g.id ≡ name_at names g.id) entries f old_names there in
    let length_store : length (store ++ Some node ∷ []) ≡ length store + 1 = length-append store (Some node ∷ []) in
    let length_names = length-append names (name ∷ []) in
    let length_entries = length-add e entries in
    record {
      count = let count = s.count in omega arith;
      each = All-add (StandsFor m now (store ++ Some node ∷ [])) e entries
          (record { node = node; stored = subst (λ (n : ℕ). slice_get (store ++ Some node ∷ []) n ≡ Some (Some node)) (sym id) (slice_get-new store (Some node)); named = subst (λ (n : List ℕ). m.stands node n) (sym new_name) st; keyed = key ∙ ap (λ (n : List ℕ). m.tree.bound n) (sym new_name) })
          (All-weaker (StandsFor m names store) (StandsFor m now (store ++ Some node ∷ [])) (λ f h. StandsFor-push name (Some node) s.count h) entries s.each);
      differ = IdsDiffer-add e entries (All-weaker (StandsFor m names store) (λ (f : Entry). f.id ≡ e.id → ⊥) (λ f h is. let within = id_within h in omega arith) entries s.each) s.differ;
      few = let few = s.few in omega arith;
      fits = omega arith;
      to_find = λ v r better. elim (s.to_find v r better) [
        | inl u ↦ inl (u.0, Contains-add e u.0 entries u.1, subst (λ (n : List ℕ). m.reaches n v) (sym (old_name u.0 u.1)) u.2)
        | inr u ↦ elim (Contains-cases name u.0 waiting u.1) [
          | inl same ↦ inl (e, Contains-added e entries, subst (λ (n : List ℕ). m.reaches n v) (sym same ∙ sym new_name) u.2)
          | inr rest ↦ inr (u.0, rest, u.2)
        ]
      ];
      counted = put_counted name e length_store new_name old_names s.counted;
    }

-- a node is taken, nothing better than a new best is under it, and nothing below it is needed
pub node_closed : {N P : Type 0} {m : Meaning N P} {capacity : ℕ} {names : List (List ℕ)} {entries : List Entry} {store : List (Option N)} {best : Option ℕ}
    (e : Entry) (now : Option ℕ) → IsSearching m capacity names (e ∷ entries) store [] best
    → ((v : ℕ) → IsTrue (is_better v now) → IsTrue (is_better v best)) → ((v : ℕ) → m.reaches (name_at names e.id) v → IsTrue (is_better v now) → ⊥)
    → unavoidable_at m.tree m.least (name_at names e.id) ≤ 1 → AreAhead m.tree capacity names entries [] now
    → IsSearching m capacity names entries (set store e.id None) [] now
node_closed {N} {P} {m} {capacity} {names} {entries} {store} {best} e now s fewer none alone ahead =
    let same_length : length (set store e.id None) ≡ length store = length-set store e.id None in
    record {
      count = s.count ∙ sym same_length;
      each = All-both (StandsFor m names store) (λ (f : Entry). f.id ≡ e.id → ⊥) (StandsFor m names (set store e.id None)) entries (λ f h apart. StandsFor-set e.id apart h) (All-tail (StandsFor m names store) e entries s.each) s.differ.0;
      differ = s.differ.1;
      few = let few = s.few in omega arith;
      fits = let fits = s.fits in omega arith;
      to_find = λ v r better. elim (s.to_find v r (fewer v better)) [
        | inl u ↦ elim (Contains-cases e u.0 entries u.1) [
          | inl same ↦ absurd (none v (subst (λ (f : Entry). m.reaches (name_at names f.id) v) (sym same) u.2) better)
          | inr rest ↦ inl (u.0, rest, u.2)
        ]
        | inr u ↦ absurd (none_in_empty u.0 u.1)
      ];
      counted = rw same_length (closed_counted e now alone ahead s.counted);
    }

pub key_le : (e f : Entry) → raw_of e ≤ raw_of f → e.key ≤ f.key
unfolding raw_of
key_le e f le = let fits = f.id_fits in omega arith

-- a feasible plan of least cost is reached from the root
least_reached : {N P : Type 0} {m : Meaning N P} → IsLawful m → m.reaches [] m.least
least_reached {m} laws = subst (λ (v : ℕ). m.reaches [] v) laws.attained.2 (laws.reached laws.attained.0 laws.attained.1)

-- the least entry's key is at most the least cost, where it is below the best cost
pub key_at_most_least : {N P : Type 0} {m : Meaning N P} {capacity : ℕ} {names : List (List ℕ)} {entries : List Entry} {store : List (Option N)}
    (best : Option ℕ) (e : Entry) → IsLawful m → IsSearching m capacity names (e ∷ entries) store [] best → IsRising (e ∷ entries) → IsTrue (is_better e.key best) → e.key ≤ m.least
key_at_most_least {N} {P} {m} {capacity} {names} {entries} {store} best e laws s rising better =
    elim (cases_Bool (is_better m.least best)) [
      | inl good ↦ elim (s.to_find m.least (least_reached laws) good) [
        | inl u ↦ let low : raw_of e ≤ raw_of u.0 = All-contains (λ (y : Entry). raw_of e ≤ raw_of y) (e ∷ entries) u.0 (least_all e entries rising) u.1 in
            let le : e.key ≤ u.0.key = key_le e u.0 low in
            let key = (All-contains (StandsFor m names store) (e ∷ entries) u.0 s.each u.1).keyed in
            let bound = laws.bounded (name_at names u.0.id) m.least u.2 in omega arith
        | inr u ↦ absurd (none_in_empty u.0 u.1)
      ]
      | inr bad ↦ not_above best e.key m.least bad better
    ]

-- a node is taken, and its children wait in its place
pub node_branched : {N P : Type 0} {m : Meaning N P} {capacity : ℕ} {names : List (List ℕ)} {entries : List Entry} {store : List (Option N)} {best : Option ℕ}
    (e : Entry) → IsLawful m → IsSearching m capacity names (e ∷ entries) store [] best → e.key ≤ m.least → 1 ≤ length (m.tree.children (name_at names e.id))
    → IsSearching m capacity names entries (set store e.id None) (map (below (name_at names e.id)) (m.tree.children (name_at names e.id))) best
node_branched {N} {P} {m} {capacity} {names} {entries} {store} {best} e laws s low some =
    let name : List ℕ = name_at names e.id in
    let same_length : length (set store e.id None) ≡ length store = length-set store e.id None in
    let key : e.key ≡ m.tree.bound name = (All-head (StandsFor m names store) e entries s.each).keyed in
    let branches : m.tree.children name ≡ [] → ⊥ = λ none. let no = ap length none in omega arith in
    let short : length name < m.tree.height = elim (cases_lt (length name) m.tree.height) [ inl lt ↦ lt | inr le ↦ absurd (branches (laws.ends name le)) ] in
    let needs : need_at m.tree m.least name ≡ total (λ (n : List ℕ). 1 + need_at m.tree m.least n) (map (below name) (m.tree.children name)) = need_branch m.tree m.least name (omega arith) short in
    record {
      count = s.count ∙ sym same_length;
      each = All-both (StandsFor m names store) (λ (f : Entry). f.id ≡ e.id → ⊥) (StandsFor m names (set store e.id None)) entries (λ f h apart. StandsFor-set e.id apart h) (All-tail (StandsFor m names store) e entries s.each) s.differ.0;
      differ = s.differ.1;
      few = let few = s.few in omega arith;
      fits = let fits = s.fits in omega arith;
      to_find = λ v r better. elim (s.to_find v r better) [
        | inl u ↦ elim (Contains-cases e u.0 entries u.1) [
          | inl same ↦ inr (let t = laws.passed_on name v (subst (λ (f : Entry). m.reaches (name_at names f.id) v) (sym same) u.2) branches in (below name t.0, Contains-map (below name) t.0 (m.tree.children name) t.1, t.2))
          | inr rest ↦ inl (u.0, rest, u.2)
        ]
        | inr u ↦ absurd (none_in_empty u.0 u.1)
      ];
      counted = rw same_length (branched_counted e short some needs s.counted);
    }

-- of those that wait, the nodes whose bounds are not below the best cost are left out
pub better_kept : {N P : Type 0} {m : Meaning N P} {capacity : ℕ} {names : List (List ℕ)} {entries : List Entry} {store : List (Option N)}
    (waiting : List (List ℕ)) (best : Option ℕ) → IsLawful m → IsAtLeast m.least best → IsSearching m capacity names entries store waiting best
    → IsSearching m capacity names entries store (better_names m.tree best waiting) best
better_kept {N} {P} {m} {capacity} {names} {entries} {store} waiting best laws above s =
    let test : List ℕ → Bool = λ n. is_better (m.tree.bound n) best in
    record {
      count = s.count;
      each = s.each;
      differ = s.differ;
      few = s.few;
      fits = s.fits;
      to_find = λ v r better. elim (s.to_find v r better) [
        | inl u ↦ inl u
        | inr u ↦ inr (u.0, Contains-filter test u.0 waiting (better_below (m.tree.bound u.0) v best (laws.bounded u.0 v u.2) better) u.1, u.2)
      ];
      counted = kept_counted waiting best above s.counted;
    }

-- where no key is better than the best, no cost that is reached is
nothing_better : {N P : Type 0} {m : Meaning N P} {capacity : ℕ} {names : List (List ℕ)} {entries : List Entry} {store : List (Option N)} {best : Option ℕ}
    (v : ℕ) → IsLawful m → IsSearching m capacity names entries store [] best → All (λ (e : Entry). is_better e.key best ≡ false) entries → m.reaches [] v → IsTrue (is_better v best) → ⊥
nothing_better {m} {names} {entries} {store} {best} v laws s none r better = elim (s.to_find v r better) [
  | inl u ↦ let stands = All-contains (StandsFor m names store) entries u.0 s.each u.1 in
      let keyed = stands.keyed in
      let bound = laws.bounded (name_at names u.0.id) v u.2 in
      let bad = All-contains (λ (e : Entry). is_better e.key best ≡ false) entries u.0 none u.1 in
      let good = better_below u.0.key v best (omega arith) better in cc
  | inr u ↦ none_in_empty u.0 u.1
]

-- so there is a best plan
pub some_best : {N P : Type 0} {m : Meaning N P} {capacity : ℕ} {names : List (List ℕ)} {entries : List Entry} {store : List (Option N)}
    → IsLawful m → IsSearching m capacity names entries store [] None → All (λ (e : Entry). is_better e.key None ≡ false) entries → ⊥
some_best {m} laws s none = nothing_better m.least laws s none (least_reached laws) refl

-- and no feasible plan costs less
pub best_is_least : {N P : Type 0} {m : Meaning N P} {capacity : ℕ} {names : List (List ℕ)} {entries : List Entry} {store : List (Option N)}
    (cost : ℕ) (other : P) → IsLawful m → IsSearching m capacity names entries store [] (Some cost) → All (λ (e : Entry). is_better e.key (Some cost) ≡ false) entries → m.is_feasible other → cost ≤ m.cost_of other
best_is_least {m} cost other laws s none feasible_is = elim (cases_lt (m.cost_of other) cost) [
  | inl lt ↦ absurd (nothing_better (m.cost_of other) laws s none (laws.reached other feasible_is) (lt-ltb (m.cost_of other) cost lt))
  | inr le ↦ le
]

-- all that no search gets around is made
pub around_is_made : {N P : Type 0} {m : Meaning N P} {capacity : ℕ} {names : List (List ℕ)} {entries : List Entry} {store : List (Option N)}
    (best : Option ℕ) → IsAtLeast m.least best → IsSearching m capacity names entries store [] best → All (λ (e : Entry). is_better e.key best ≡ false) entries → unavoidable m.tree m.least ≤ length store
around_is_made {m} {names} {entries} {store} best above s none = all_made
    (All-both (StandsFor m names store) (λ (e : Entry). is_better e.key best ≡ false) (λ (e : Entry). m.least ≤ m.tree.bound (name_at names e.id)) entries
    (λ e h bad. let keyed = h.keyed in let high = not_better m.least e.key best above bad in omega arith) s.each none) s.counted
