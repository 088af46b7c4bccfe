-- The steps of a search, as its count of nodes has them.
use Rattle.std.proofs.Common.{◌≡◌, ℕ, ◌+◌, ◌-◌, ◌<◌, ◌≤◌, false, List, [], ◌∷◌, length, map, Some, None, Option, refl, ap, arith}
use Rattle.std.specs.Prelude.{All}
use Rattle.std.proofs.lemmas.List.Elements.{All-nil, All-cons, All-head, All-tail, All-weaker}
use Rattle.pq_words.specs.declared.entries.Entry.{Entry}
use Rattle.pq_model.specs.Multiset.{add}
use Rattle.pq_model.proofs.Multisets.{All-add, length-add}
use Rattle.bb_problem.specs.Tree.{Tree, below, unavoidable, open_at_first, total}
use Rattle.bb_pool.specs.Costs.{is_better, IsAtLeast}
use Rattle.bb_pool.specs.Children.{better_names}
use Rattle.bb_pool.specs.Searching.{name_at, need_at, unavoidable_at, open_by, IsAhead, AreAhead, IsCounted}
use Rattle.bb_pool.proofs.Costs.{not_better}
use Rattle.bb_pool.proofs.Members.{All-both}
use Rattle.bb_pool.proofs.Totals.{length_map, total-add, total-same, total-filter, total-sifted, total-none}
use Rattle.bb_pool.proofs.Needs.{need_root, unavoidable_root, unavoidable_branch, unavoidable_high, open_root, open_branch}

-- before the root is put
pub root_counted : (tree : Tree) (least capacity : ℕ) → IsCounted tree least capacity 0 [] [] ([] ∷ []) None
root_counted tree least capacity = record {
  budget = omega (arith, need_root tree least);
  around = omega (arith, unavoidable_root tree least);
  ahead = (
    All-nil (λ (e : Entry). IsAhead tree 1 (name_at [] e.id)),
    All-cons (IsAhead tree 1) [] [] (omega (arith, open_root tree)) (All-nil (IsAhead tree 1)),
  );
}

same_ahead : (tree : Tree) (count after : ℕ) (name name' : List ℕ) → count ≤ after → name' ≡ name → IsAhead tree count name → IsAhead tree after name'
same_ahead tree count after name name' more same ahead = let is = ap (open_by tree) same in omega arith

ahead_put : (tree : Tree) (capacity : ℕ) (names now : List (List ℕ)) (entries : List Entry) (waiting : List (List ℕ)) (name : List ℕ) (e : Entry) (best : Option ℕ)
    → name_at now e.id ≡ name → All (λ (f : Entry). name_at now f.id ≡ name_at names f.id) entries → AreAhead tree capacity names entries (name ∷ waiting) best
    → AreAhead tree capacity now (add e entries) waiting best
ahead_put tree capacity names now entries waiting name e (Some b) new old ahead = ahead
ahead_put tree capacity names now entries waiting name e None new old ahead =
    let before : ℕ = length entries + length (name ∷ waiting) in
    let count : ℕ = length (add e entries) + length waiting in
    let more : before ≤ count = omega (arith, length-add e entries) in (
      All-add (λ (f : Entry). IsAhead tree count (name_at now f.id)) e entries
          (same_ahead tree before count name (name_at now e.id) more new (All-head (IsAhead tree before) name waiting ahead.1))
          (All-both (λ (f : Entry). IsAhead tree before (name_at names f.id)) (λ (f : Entry). name_at now f.id ≡ name_at names f.id) (λ (f : Entry). IsAhead tree count (name_at now f.id)) entries
          (λ f is same. same_ahead tree before count (name_at names f.id) (name_at now f.id) more same is) ahead.0 old),
      All-weaker (IsAhead tree before) (IsAhead tree count) (λ n is. same_ahead tree before count n n more refl is) waiting (All-tail (IsAhead tree before) name waiting ahead.1),
    )

-- a node that waits is put, by this entry
pub put_counted : {tree : Tree} {least capacity made made' : ℕ} {names now : List (List ℕ)} {entries : List Entry} {waiting : List (List ℕ)} {best : Option ℕ} (name : List ℕ) (e : Entry)
    → made' ≡ made + 1 → name_at now e.id ≡ name → All (λ (f : Entry). name_at now f.id ≡ name_at names f.id) entries → IsCounted tree least capacity made names entries (name ∷ waiting) best
    → IsCounted tree least capacity made' now (add e entries) waiting best
put_counted {tree} {least} {capacity} {made} {made'} {names} {now} {entries} {waiting} {best} name e longer new old c =
    let need : List ℕ → ℕ = need_at tree least in
    let around : List ℕ → ℕ = unavoidable_at tree least in
    record {
      budget = let budget = c.budget in
          let sum = total-add (λ (f : Entry). need (name_at now f.id)) e entries in
          let new_need : need (name_at now e.id) ≡ need name = ap need new in
          let same = total-same (λ (f : Entry). need (name_at now f.id)) (λ (f : Entry). need (name_at names f.id)) entries
          (All-weaker (λ (f : Entry). name_at now f.id ≡ name_at names f.id) (λ (f : Entry). need (name_at now f.id) ≡ need (name_at names f.id)) (λ f is. ap need is) entries old) in omega arith;
      around = let before = c.around in
          let sum = total-add (λ (f : Entry). around (name_at now f.id) - 1) e entries in
          let new_around : around (name_at now e.id) ≡ around name = ap around new in
          let same = total-same (λ (f : Entry). around (name_at now f.id) - 1) (λ (f : Entry). around (name_at names f.id) - 1) entries
          (All-weaker (λ (f : Entry). name_at now f.id ≡ name_at names f.id) (λ (f : Entry). around (name_at now f.id) - 1 ≡ around (name_at names f.id) - 1) (λ f is. ap (λ (n : List ℕ). around n - 1) is) entries old) in omega arith;
      ahead = ahead_put tree capacity names now entries waiting name e best new old c.ahead;
    }

-- a node is taken, and nothing below it is needed
pub closed_counted : {tree : Tree} {least capacity made : ℕ} {names : List (List ℕ)} {entries : List Entry} {best : Option ℕ} (e : Entry) (now : Option ℕ)
    → unavoidable_at tree least (name_at names e.id) ≤ 1 → AreAhead tree capacity names entries [] now → IsCounted tree least capacity made names (e ∷ entries) [] best
    → IsCounted tree least capacity made names entries [] now
closed_counted e now alone ahead c = record {
  budget = let budget = c.budget in omega arith;
  around = let around = c.around in omega arith;
  ahead = ahead;
}

-- a node can be dropped only once a plan is found
pub ahead_dropped : (tree : Tree) (capacity : ℕ) (names : List (List ℕ)) (entries : List Entry) (e : Entry) (cost : ℕ) (best : Option ℕ)
    → is_better cost best ≡ false → AreAhead tree capacity names (e ∷ entries) [] best → AreAhead tree capacity names entries [] best
ahead_dropped tree capacity names entries e cost None bad ahead = absurd (cc)
ahead_dropped tree capacity names entries e cost (Some b) bad ahead = ahead

-- a leaf is found, and the queue had room for what was open
pub ahead_found : (tree : Tree) (capacity : ℕ) (names : List (List ℕ)) (entries : List Entry) (e : Entry) (best : Option ℕ)
    → length (e ∷ entries) ≤ capacity → open_by tree (name_at names e.id) ≡ 1 → AreAhead tree capacity names (e ∷ entries) [] best → open_at_first tree ≤ capacity
ahead_found tree capacity names entries e None fits alone ahead =
    let count : ℕ = length (e ∷ entries) + 0 in
    let is : IsAhead tree count (name_at names e.id) = All-head (λ (f : Entry). IsAhead tree count (name_at names f.id)) e entries ahead.0 in omega arith
ahead_found tree capacity names entries e (Some b) fits alone ahead = ahead

ahead_branched : (tree : Tree) (capacity : ℕ) (names : List (List ℕ)) (entries : List Entry) (e : Entry) (best : Option ℕ)
    → length (name_at names e.id) < tree.height → 1 ≤ length (tree.children (name_at names e.id)) → AreAhead tree capacity names (e ∷ entries) [] best
    → AreAhead tree capacity names entries (map (below (name_at names e.id)) (tree.children (name_at names e.id))) best
ahead_branched tree capacity names entries e (Some b) short some ahead = ahead
ahead_branched tree capacity names entries e None short some ahead =
    let name : List ℕ = name_at names e.id in
    let waiting : List (List ℕ) = map (below name) (tree.children name) in
    let before : ℕ = length (e ∷ entries) + 0 in
    let count : ℕ = length entries + length waiting in
    let same : length waiting ≡ length (tree.children name) = length_map (below name) (tree.children name) in
    let more : before ≤ count = omega arith in
    let P : Entry → Type 0 = λ f. IsAhead tree before (name_at names f.id) in
    let here : IsAhead tree before name = All-head (λ (f : Entry). IsAhead tree before (name_at names f.id)) e entries ahead.0 in (
      All-weaker (λ (f : Entry). IsAhead tree before (name_at names f.id)) (λ (f : Entry). IsAhead tree count (name_at names f.id)) (λ f is. same_ahead tree before count (name_at names f.id) (name_at names f.id) more refl is)
          entries (All-tail (λ (f : Entry). IsAhead tree before (name_at names f.id)) e entries ahead.0),
      All-weaker (λ (n : List ℕ). open_by tree name < length (tree.children name) + open_by tree n) (IsAhead tree count) (λ n is. omega arith) waiting (open_branch tree name short),
    )

-- a node is taken, and its children wait in its place
pub branched_counted : {tree : Tree} {least capacity made : ℕ} {names : List (List ℕ)} {entries : List Entry} {best : Option ℕ} (e : Entry)
    → length (name_at names e.id) < tree.height → 1 ≤ length (tree.children (name_at names e.id))
    → need_at tree least (name_at names e.id) ≡ total (λ (n : List ℕ). 1 + need_at tree least n) (map (below (name_at names e.id)) (tree.children (name_at names e.id)))
    → IsCounted tree least capacity made names (e ∷ entries) [] best
    → IsCounted tree least capacity made names entries (map (below (name_at names e.id)) (tree.children (name_at names e.id))) best
branched_counted {tree} {least} {capacity} {made} {names} {entries} {best} e short some needs c = record {
  budget = let budget = c.budget in omega arith;
  around = let around = c.around in let most = unavoidable_branch tree least (name_at names e.id) short in omega arith;
  ahead = ahead_branched tree capacity names entries e best short some c.ahead;
}

all_better : (tree : Tree) (names : List (List ℕ)) → better_names tree None names ≡ names
all_better tree [] = refl
all_better tree (n ∷ ns) = ap (λ (l : List (List ℕ)). n ∷ l) (all_better tree ns)

ahead_kept : (tree : Tree) (capacity : ℕ) (names : List (List ℕ)) (entries : List Entry) (waiting : List (List ℕ)) (best : Option ℕ)
    → AreAhead tree capacity names entries waiting best → AreAhead tree capacity names entries (better_names tree best waiting) best
ahead_kept tree capacity names entries waiting None ahead = rw (all_better tree waiting) ahead
ahead_kept tree capacity names entries waiting (Some b) ahead = ahead

-- of those that wait, the nodes whose bounds are not below the best cost are left out
pub kept_counted : {tree : Tree} {least capacity made : ℕ} {names : List (List ℕ)} {entries : List Entry} (waiting : List (List ℕ)) (best : Option ℕ)
    → IsAtLeast least best → IsCounted tree least capacity made names entries waiting best → IsCounted tree least capacity made names entries (better_names tree best waiting) best
kept_counted {tree} {least} {capacity} {made} {names} {entries} waiting best above c = record {
  budget = let budget = c.budget in let fewer = total-filter (λ (n : List ℕ). 1 + need_at tree least n) (λ (n : List ℕ). is_better (tree.bound n) best) waiting in omega arith;
  around = let around = c.around in
      let same = total-sifted (unavoidable_at tree least) (λ (n : List ℕ). is_better (tree.bound n) best) waiting (λ n no. unavoidable_high tree least n (not_better least (tree.bound n) best above no)) in omega arith;
  ahead = ahead_kept tree capacity names entries waiting best c.ahead;
}

-- once no entry is left whose bound is below the least cost, all that no search gets around is made
pub all_made : {tree : Tree} {least capacity made : ℕ} {names : List (List ℕ)} {entries : List Entry} {best : Option ℕ}
    → All (λ (e : Entry). least ≤ tree.bound (name_at names e.id)) entries → IsCounted tree least capacity made names entries [] best → unavoidable tree least ≤ made
all_made {tree} {least} {names} {entries} high c = let around = c.around in
    let none = total-none (λ (e : Entry). unavoidable_at tree least (name_at names e.id) - 1) entries
    (All-weaker (λ (e : Entry). least ≤ tree.bound (name_at names e.id)) (λ (e : Entry). unavoidable_at tree least (name_at names e.id) - 1 ≡ 0) (λ e le. let zero = unavoidable_high tree least (name_at names e.id) le in omega arith) entries high) in omega arith
