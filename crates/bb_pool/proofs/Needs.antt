-- What is counted from a node on, by what is counted from its children on.
use Rattle.std.proofs.Common.{◌≡◌, ℕ, ◌+◌, ◌-◌, ◌<◌, ◌≤◌, zero, suc, Bool, cond, List, [], ◌∷◌, length, map, refl, sym, ap, ◌∙◌, arith}
use Rattle.std.specs.Prelude.{All}
use Rattle.std.proofs.lemmas.Bool.{le-ltb}
use Rattle.std.proofs.lemmas.Bool.Decides.{nat_tests}
use Rattle.std.proofs.lemmas.List.Elements.{All-nil, All-cons, All-weaker, All-map}
use Rattle.std.proofs.lemmas.List.{length-append}
use Rattle.bb_problem.specs.Tree.{Tree, below, need, needed, unavoidable_from, unavoidable, open_from, open_at, open_at_first, fewest, total}
use Rattle.bb_pool.specs.Searching.{need_at, unavoidable_at, open_by}
use Rattle.bb_pool.proofs.Totals.{total-more, total-map, total-equal}

need_below : (tree : Tree) (least more k : ℕ) (name : List ℕ) → tree.height ≡ length name + suc more → need tree least more (below name k) ≡ need_at tree least (below name k)
need_below tree least more k name is = let long = length-append name (k ∷ []) in
    let same : more ≡ tree.height - length (below name k) = omega arith in ap (λ (n : ℕ). need tree least n (below name k)) same

need_opened : (tree : Tree) (least more : ℕ) (name : List ℕ) → tree.bound name ≤ least → need tree least (suc more) name ≡ length (tree.children name) + total (λ (k : ℕ). need tree least more (below name k)) (tree.children name)
need_opened tree least more name low = ap (λ (b : Bool). cond b 0 (length (tree.children name) + total (λ (k : ℕ). need tree least more (below name k)) (tree.children name))) (le-ltb least (tree.bound name) low)

pub need_branch : (tree : Tree) (least : ℕ) (name : List ℕ) → tree.bound name ≤ least → length name < tree.height → need_at tree least name ≡ total (λ (n : List ℕ). 1 + need_at tree least n) (map (below name) (tree.children name))
need_branch tree least name low short = let more : ℕ = tree.height - length name - 1 in
    let fuel : tree.height - length name ≡ suc more = omega arith in
    let is : tree.height ≡ length name + suc more = omega arith in
    let f : ℕ → ℕ = λ k. need tree least more (below name k) in
    let g : ℕ → ℕ = λ k. 1 + need_at tree least (below name k) in
    let opened : need_at tree least name ≡ length (tree.children name) + total f (tree.children name) = ap (λ (n : ℕ). need tree least n name) fuel ∙ need_opened tree least more name low in
    let each : total g (tree.children name) ≡ length (tree.children name) + total f (tree.children name) = total-more f g (tree.children name) (λ k. ap (λ (n : ℕ). 1 + n) (sym (need_below tree least more k name is))) in
    let mapped : total (λ (n : List ℕ). 1 + need_at tree least n) (map (below name) (tree.children name)) ≡ total g (tree.children name) = total-map (λ (n : List ℕ). 1 + need_at tree least n) (below name) (tree.children name) in
    opened ∙ sym each ∙ sym mapped

pub need_root : (tree : Tree) (least : ℕ) → 1 + need_at tree least [] ≡ needed tree least
need_root tree least = let same : tree.height - 0 ≡ tree.height = omega arith in ap (λ (n : ℕ). 1 + need tree least n []) same

-- what is counted from a child on has one number less to go
below_fuel : {X : Type 0} (f : ℕ → X) (tree : Tree) (more k : ℕ) (name : List ℕ) → tree.height ≡ length name + suc more → f more ≡ f (tree.height - length (below name k))
below_fuel f tree more k name is = let long = length-append name (k ∷ []) in
    let same : more ≡ tree.height - length (below name k) = omega arith in ap f same

-- no search gets around a node whose bound is below the least cost, nor around those of its children
pub unavoidable_branch : (tree : Tree) (least : ℕ) (name : List ℕ) → length name < tree.height → unavoidable_at tree least name ≤ 1 + total (unavoidable_at tree least) (map (below name) (tree.children name))
unavoidable_branch tree least name short = let more : ℕ = tree.height - length name - 1 in
    let fuel : tree.height - length name ≡ suc more = omega arith in
    let is : tree.height ≡ length name + suc more = omega arith in
    let f : ℕ → ℕ = λ k. unavoidable_from tree least more (below name k) in
    let g : ℕ → ℕ = λ k. unavoidable_at tree least (below name k) in
    let opened : unavoidable_at tree least name ≡ unavoidable_from tree least (suc more) name = ap (λ (n : ℕ). unavoidable_from tree least n name) fuel in
    let most : unavoidable_from tree least (suc more) name ≤ 1 + total f (tree.children name) = grind (arith, nat_tests) in
    let each : total f (tree.children name) ≡ total g (tree.children name) = total-equal f g (tree.children name) (λ k. below_fuel (λ (n : ℕ). unavoidable_from tree least n (below name k)) tree more k name is) in
    let mapped : total (unavoidable_at tree least) (map (below name) (tree.children name)) ≡ total g (tree.children name) = total-map (unavoidable_at tree least) (below name) (tree.children name) in
    omega arith

unavoidable_first : (tree : Tree) (least more : ℕ) (name : List ℕ) → tree.children name ≡ [] → unavoidable_from tree least more name ≤ 1
unavoidable_first tree least zero name none = grind (arith, nat_tests)
unavoidable_first tree least (suc more) name none = let nothing : total (λ k. unavoidable_from tree least more (below name k)) (tree.children name) ≡ 0 = ap (total (λ k. unavoidable_from tree least more (below name k))) none in
    grind (arith, nat_tests)

-- nothing is below a leaf
pub unavoidable_leaf : (tree : Tree) (least : ℕ) (name : List ℕ) → tree.children name ≡ [] → unavoidable_at tree least name ≤ 1
unavoidable_leaf tree least name none = unavoidable_first tree least (tree.height - length name) name none

unavoidable_none : (tree : Tree) (least more : ℕ) (name : List ℕ) → least ≤ tree.bound name → unavoidable_from tree least more name ≡ 0
unavoidable_none tree least zero name high = grind (arith, nat_tests)
unavoidable_none tree least (suc more) name high = grind (arith, nat_tests)

-- a search may leave out a node whose bound is not below the least cost
pub unavoidable_high : (tree : Tree) (least : ℕ) (name : List ℕ) → least ≤ tree.bound name → unavoidable_at tree least name ≡ 0
unavoidable_high tree least name high = unavoidable_none tree least (tree.height - length name) name high

open_first : (tree : Tree) (more : ℕ) (name : List ℕ) → tree.children name ≡ [] → open_from tree more name ≡ 1
open_first tree zero name none = refl
open_first tree (suc more) name none = ap (open_at (λ k. open_from tree more (below name k))) none

-- a leaf is open alone
pub open_leaf : (tree : Tree) (name : List ℕ) → tree.children name ≡ [] → open_by tree name ≡ 1
open_leaf tree name none = open_first tree (tree.height - length name) name none

fewest_least : (f : ℕ → ℕ) (k : ℕ) (ks : List ℕ) → All (λ (j : ℕ). fewest f k ks ≤ f j) (k ∷ ks)
fewest_least f k [] = All-cons (λ (j : ℕ). f k ≤ f j) k [] (omega arith) (All-nil (λ (j : ℕ). f k ≤ f j))
fewest_least f k (i ∷ ks) = let min : ℕ = fewest f k (i ∷ ks) in All-cons (λ (j : ℕ). min ≤ f j) k (i ∷ ks) (omega arith)
    (All-weaker (λ (j : ℕ). fewest f i ks ≤ f j) (λ (j : ℕ). min ≤ f j) (λ j le. omega arith) (i ∷ ks) (fewest_least f i ks))

-- where a search goes on at one child, the others stay open
open_each : (f : ℕ → ℕ) (ks : List ℕ) → All (λ (k : ℕ). open_at f ks < length ks + f k) ks
open_each f [] = All-nil (λ (k : ℕ). open_at f [] < 0 + f k)
open_each f (k ∷ ks) = All-weaker (λ (j : ℕ). fewest f k ks ≤ f j) (λ (j : ℕ). open_at f (k ∷ ks) < length (k ∷ ks) + f j) (λ j le. omega arith) (k ∷ ks) (fewest_least f k ks)

pub open_branch : (tree : Tree) (name : List ℕ) → length name < tree.height → All (λ (n : List ℕ). open_by tree name < length (tree.children name) + open_by tree n) (map (below name) (tree.children name))
open_branch tree name short = let more : ℕ = tree.height - length name - 1 in
    let fuel : tree.height - length name ≡ suc more = omega arith in
    let is : tree.height ≡ length name + suc more = omega arith in
    let ks : List ℕ = tree.children name in
    let f : ℕ → ℕ = λ k. open_from tree more (below name k) in
    let opened : open_by tree name ≡ open_at f ks = ap (λ (n : ℕ). open_from tree n name) fuel in
    All-map (λ (n : List ℕ). open_by tree name < length ks + open_by tree n) (below name) ks
    (All-weaker (λ (k : ℕ). open_at f ks < length ks + f k) (λ (k : ℕ). open_by tree name < length ks + open_by tree (below name k))
    (λ k lt. let same : f k ≡ open_by tree (below name k) = below_fuel (λ (n : ℕ). open_from tree n (below name k)) tree more k name is in omega arith) ks (open_each f ks))

pub unavoidable_root : (tree : Tree) (least : ℕ) → unavoidable_at tree least [] ≡ unavoidable tree least
unavoidable_root tree least = let same : tree.height - 0 ≡ tree.height = omega arith in ap (λ (n : ℕ). unavoidable_from tree least n []) same

pub open_root : (tree : Tree) → open_by tree [] ≡ open_at_first tree
open_root tree = let same : tree.height - 0 ≡ tree.height = omega arith in ap (λ (n : ℕ). open_from tree n []) same
