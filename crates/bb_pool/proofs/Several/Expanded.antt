-- What a node that was taken passes on: nothing where it is dropped or is a leaf, else to its children that are kept.
use Rattle.std.proofs.Common.{◌≡◌, ◌≢◌, ℕ, ◌<◌, ◌≤◌, Bool, true, false, cond, List, [], ◌∷◌, length, Option, refl, sym, subst, inl, inr, arith}
use Rattle.std.specs.Prelude.{Contains, IsTrue}
use Rattle.std.proofs.lemmas.Bool.{cases_lt}
use Rattle.std.proofs.lemmas.List.{length-append}
use Rattle.pq_model.proofs.Choices.{by_test}
use Rattle.bb_problem.specs.Tree.{below}
use Rattle.bb_problem.specs.Meaning.{Meaning, IsLawful}
use Rattle.bb_problem.specs.Expanding.{StandBelow}
use Rattle.bb_pool.specs.Costs.{is_better}
use Rattle.bb_pool.specs.Children.{AreBounds, better_keys}
use Rattle.bb_pool.specs.Working.{Waiting, kept_of, IsWaitedFor}
use Rattle.bb_pool.proofs.Members.{none_in_empty, Contains-here, Contains-there, Contains-cases}
use Rattle.bb_pool.proofs.Costs.{better_below}

abbrev pub waiting : {N : Type 0} → ℕ → N → Waiting N
waiting key node = record { key = key; node = node }

-- The list is one longer where the key is better.
pub kept_by : {N : Type 0} (P : List (Waiting N) → Type 0) (best : Option ℕ) (n : N) (ns : List N) (k : ℕ) (ks : List ℕ)
    → (is_better k best ≡ true → P (waiting k n ∷ kept_of best ns ks)) → (is_better k best ≡ false → P (kept_of best ns ks)) → P (kept_of best (n ∷ ns) (k ∷ ks))
kept_by P best n ns k ks good bad = by_test P (is_better k best) (waiting k n ∷ kept_of best ns ks) (kept_of best ns ks) good bad

-- who waits is one of the nodes
pub kept_from : {N : Type 0} (best : Option ℕ) (nodes : List N) (keys : List ℕ) (w : Waiting N) → Contains (kept_of best nodes keys) w → Contains nodes w.node
kept_from best [] keys w there = absurd (none_in_empty w there)
kept_from best (n ∷ ns) [] w there = absurd (none_in_empty w there)
kept_from {N} best (n ∷ ns) (k ∷ ks) w there = kept_by (λ (l : List (Waiting N)). Contains l w → Contains (n ∷ ns) w.node) best n ns k ks
    (λ t has. elim (Contains-cases (waiting k n) w (kept_of best ns ks) has) [
      | inl same ↦ subst (λ (z : Waiting N). Contains (n ∷ ns) z.node) same (Contains-here n ns)
      | inr rest ↦ Contains-there n w.node ns (kept_from best ns ks w rest)
    ])
    (λ t has. Contains-there n w.node ns (kept_from best ns ks w has)) there

-- as many wait as keys are better
pub kept_length : {N L : Type 0} (m : Meaning N L) (best : Option ℕ) (nodes : List N) (keys : List ℕ) → AreBounds m nodes keys → length (kept_of best nodes keys) ≡ length (better_keys best keys)
kept_length m best [] [] bounds = refl
kept_length m best [] (k ∷ ks) bounds = absurd bounds
kept_length m best (n ∷ ns) [] bounds = absurd bounds
kept_length m best (n ∷ ns) (k ∷ ks) bounds = let rest = kept_length m best ns ks bounds.1 in
    by_either (is_better k best) (waiting k n) (kept_of best ns ks) k (better_keys best ks) rest
  where
    by_either : {X Y : Type 0} (b : Bool) (x : X) (xs : List X) (y : Y) (ys : List Y) → length xs ≡ length ys → length (cond b (x ∷ xs) xs) ≡ length (cond b (y ∷ ys) ys)
    by_either true x xs y ys same = omega arith
    by_either false x xs y ys same = same

-- each child's node with its bound waits, where that is better
kept_there : {N L : Type 0} (m : Meaning N L) (best : Option ℕ) (nodes : List N) (keys : List ℕ) (node : N) (name : List ℕ) → AreBounds m nodes keys → Contains nodes node → m.stands node name → IsTrue (is_better (m.tree.bound name) best)
    → Contains (kept_of best nodes keys) (waiting (m.tree.bound name) node)
kept_there m best [] keys node name bounds there st good = absurd (none_in_empty node there)
kept_there m best (n ∷ ns) [] node name bounds there st good = absurd bounds
kept_there {N} m best (n ∷ ns) (k ∷ ks) node name bounds there st good = let w : Waiting N = waiting (m.tree.bound name) node in
    elim (Contains-cases n node ns there) [
      | inl same ↦ let is : k ≡ m.tree.bound name = bounds.0 name (subst (λ (z : N). m.stands z name) (sym same) st) in
          kept_by (λ (l : List (Waiting N)). Contains l w) best n ns k ks
          (λ t. subst (λ (z : Waiting N). Contains (waiting k n ∷ kept_of best ns ks) z) (λ i. waiting (is i) (same i)) (Contains-here (waiting k n) (kept_of best ns ks)))
          (λ t. absurd (let e = subst (λ (z : ℕ). is_better z best ≡ false) is t in cc))
      | inr rest ↦ let has = kept_there m best ns ks node name bounds.1 rest st good in
          kept_by (λ (l : List (Waiting N)). Contains l w) best n ns k ks (λ t. Contains-there (waiting k n) w (kept_of best ns ks) has) (λ t. has)
    ]

-- each number leads to one of the nodes
child_of : {N : Type 0} (stands : N → List ℕ → Type 0) (name : List ℕ) (nodes : List N) (ks : List ℕ) (k : ℕ) → StandBelow stands name nodes ks → Contains ks k → (node : N) × Contains nodes node × stands node (below name k)
child_of stands name [] [] k all there = absurd (none_in_empty k there)
child_of stands name (n ∷ ns) [] k all there = absurd all
child_of stands name [] (j ∷ ks) k all there = absurd all
child_of stands name (n ∷ ns) (j ∷ ks) k all there = elim (Contains-cases j k ks there) [
  | inl same ↦ (n, Contains-here n ns, subst (λ (i : ℕ). stands n (below name i)) same all.0)
  | inr rest ↦ (let c = child_of stands name ns ks k all.1 rest in (c.0, Contains-there n c.0 ns c.1, c.2))
]

-- each of the nodes has a name
pub named : {N : Type 0} (stands : N → List ℕ → Type 0) (name : List ℕ) (nodes : List N) (ks : List ℕ) (node : N) → StandBelow stands name nodes ks → Contains nodes node → (next : List ℕ) × stands node next
named stands name [] ks node all there = absurd (none_in_empty node there)
named stands name (n ∷ ns) [] node all there = absurd all
named {N} stands name (n ∷ ns) (j ∷ ks) node all there = elim (Contains-cases n node ns there) [
  | inl same ↦ (below name j, subst (λ (z : N). stands z (below name j)) same all.0)
  | inr rest ↦ named stands name ns ks node all.1 rest
]

some_number : {N : Type 0} (stands : N → List ℕ → Type 0) (name : List ℕ) (nodes : List N) (ks : List ℕ) → 1 ≤ length nodes → StandBelow stands name nodes ks → ks ≢ []
some_number stands name [] ks some all is = absurd (omega arith)
some_number stands name (n ∷ ns) [] some all is = absurd all
some_number stands name (n ∷ ns) (k ∷ ks) some all is = absurd (cc)

module _ {N L : Type 0} (m : Meaning N L) (laws : IsLawful m) where
  -- a branch: what is reached and is better is reached from a child that is kept
  pub branched : (best : Option ℕ) (nodes : List N) (keys : List ℕ) (name : List ℕ) (v : ℕ) → 1 ≤ length nodes → StandBelow m.stands name nodes (m.tree.children name) → AreBounds m nodes keys → m.reaches name v → IsTrue (is_better v best)
      → IsWaitedFor m (kept_of best nodes keys) name v
  branched best nodes keys name v some all bounds r better = let is_branch = some_number m.stands name nodes (m.tree.children name) some all in
      let k = laws.passed_on name v r is_branch in let c = child_of m.stands name nodes (m.tree.children name) k.0 all k.1 in let next : List ℕ = below name k.0 in
      let high : length name < m.tree.height = elim (cases_lt (length name) m.tree.height) [ inl lt ↦ lt | inr le ↦ absurd (is_branch (laws.ends name le)) ] in
      let good = better_below (m.tree.bound next) v best (laws.bounded next v k.2) better in
      record {
        within = high;
        next = next;
        longer = length-append name (k.0 ∷ []);
        child = waiting (m.tree.bound next) c.0;
        waits = kept_there m best nodes keys c.0 next bounds c.1 c.2 good;
        standing = c.2;
        keyed = refl;
        reached = k.2;
      }

  -- a node that is dropped: what it reaches is not better than a cost that was read
  pub dropped : (best : Option ℕ) (key : ℕ) (name : List ℕ) (v : ℕ) → is_better key best ≡ false → key ≡ m.tree.bound name → m.reaches name v → IsTrue (is_better v best) → ⊥
  dropped best key name v bad is r better = let low = laws.bounded name v r in let good = better_below key v best (omega arith) better in cc

-- a leaf: what it reaches costs no less than its plan
pub leaf_above : (best : Option ℕ) (cost v : ℕ) → is_better cost best ≡ false → cost ≤ v → IsTrue (is_better v best) → ⊥
leaf_above best cost v bad le better = let good = better_below cost v best le better in cc
