-- Numbers that have names of the tree, all different, are no more than the tree has nodes.
use Rattle.std.proofs.Common.{◌≡◌, ℕ, zero, suc, ◌+◌, ◌<◌, ◌≤◌, List, [], ◌∷◌, length, get_or, refl, sym, ap, ◌∙◌, subst, inl, inr, arith}
use Rattle.std.specs.Prelude.{Contains, ◌⊎◌}
use Rattle.std.specs.List.{flat_map}
use Rattle.std.proofs.lemmas.List.{length-append}
use Rattle.std.proofs.lemmas.List.Elements.{Contains-append_left, Contains-append_right, Contains-append_cases}
use Rattle.bb_problem.specs.Tree.{Tree, below, total, nodes_from, node_count}
use Rattle.bb_problem.specs.Meaning.{Meaning, IsLawful}
use Rattle.bb_pool.specs.Searching.{name_at}
use Rattle.bb_pool.specs.Numbers.{AreNames}
use Rattle.bb_pool.specs.Laws.{NumbersAreNames, NumbersAreWithinSize}
use Rattle.bb_pool.proofs.Members.{none_in_empty, Contains-here, Contains-there, Contains-cases}

-- a list with one place left out
left_out : {X : Type 0} (ys : List X) (x : X) → Contains ys x → (zs : List X) × (length ys ≡ length zs + 1) × ((y : X) → Contains ys y → (x ≡ y) ⊎ Contains zs y)
left_out [] x there = absurd (none_in_empty x there)
left_out (y ∷ ys) x there = elim (Contains-cases y x ys there) [
  | inl same ↦ (ys, omega arith, λ z has. elim (Contains-cases y z ys has) [ inl is ↦ inl (sym same ∙ is) | inr rest ↦ inr rest ])
  | inr later ↦ (let o = left_out ys x later in let long = o.1 in (
    y ∷ o.0,
    omega arith,
    λ z has. elim (Contains-cases y z ys has) [
      | inl is ↦ inr (subst (λ w. Contains (y ∷ o.0) w) is (Contains-here y o.0))
      | inr rest ↦ elim (o.2 z rest) [ inl e ↦ inl e | inr c ↦ inr (Contains-there y z o.0 c) ]
    ],
  ))
]

-- no element stands twice
Differ : {X : Type 0} → List X → Type 0
Differ [] = Unit {0}
Differ (x ∷ xs) = (Contains xs x → ⊥) × Differ xs

-- such a list is no longer than one that has all its elements
no_longer : {X : Type 0} (xs ys : List X) → Differ xs → ((x : X) → Contains xs x → Contains ys x) → length xs ≤ length ys
unfolding Differ
no_longer [] ys differ within = omega arith
no_longer (x ∷ xs) ys differ within = let o = left_out ys x (within x (Contains-here x xs)) in
    let rest = no_longer xs o.0 differ.1 (λ y there. elim (o.2 y (within y (Contains-there x y xs there))) [ inl same ↦ absurd (differ.0 (subst (λ w. Contains xs w) (sym same) there)) | inr c ↦ c ]) in
    let long = o.1 in omega arith

same_there : {X : Type 0} (xs : List X) (k : ℕ) (a b : X) → k < length xs → get_or xs k a ≡ get_or xs k b
same_there [] k a b lt = absurd (omega arith)
same_there (x ∷ xs) zero a b lt = refl
same_there (x ∷ xs) (suc k) a b lt = same_there xs k a b (omega arith)

differ_by_place : {X : Type 0} (xs : List X) (d : X) → ((i j : ℕ) → i < length xs → j < length xs → get_or xs i d ≡ get_or xs j d → i ≡ j) → Differ xs
unfolding Differ
differ_by_place [] d once = tt
differ_by_place (x ∷ xs) d once = (
  λ there. let n : ℕ = there.0 in let lt = there.1 in let at : get_or xs n d ≡ x = same_there xs n d x lt ∙ there.2 in let is : 0 ≡ suc n = once 0 (suc n) (omega arith) (omega arith) (sym at) in omega arith,
  differ_by_place xs d (λ i j a b e. let is : suc i ≡ suc j = once (suc i) (suc j) (omega arith) (omega arith) e in omega arith),
)

-- what the pieces of a list of pieces have
in_flat_map : {X : Type 0} (f : ℕ → List X) (ks : List ℕ) (k : ℕ) (x : X) → Contains ks k → Contains (f k) x → Contains (flat_map f ks) x
in_flat_map f [] k x there has = absurd (none_in_empty k there)
in_flat_map f (j ∷ ks) k x there has = elim (Contains-cases j k ks there) [
  | inl same ↦ Contains-append_left (f j) (flat_map f ks) x (subst (λ i. Contains (f i) x) (sym same) has)
  | inr rest ↦ Contains-append_right (f j) (flat_map f ks) x (in_flat_map f ks k x rest has)
]

of_flat_map : {X : Type 0} (f : ℕ → List X) (ks : List ℕ) (x : X) → Contains (flat_map f ks) x → (k : ℕ) × Contains ks k × Contains (f k) x
of_flat_map f [] x there = absurd (none_in_empty x there)
of_flat_map f (j ∷ ks) x there = elim (Contains-append_cases (f j) (flat_map f ks) x there) [
  | inl here ↦ (j, Contains-here j ks, here)
  | inr rest ↦ (let o = of_flat_map f ks x rest in (o.0, Contains-there j o.0 ks o.1, o.2))
]

length-flat_map-total : {X : Type 0} (f : ℕ → List X) (g : ℕ → ℕ) (ks : List ℕ) → ((k : ℕ) → length (f k) ≡ g k) → length (flat_map f ks) ≡ total g ks
length-flat_map-total f g [] each = refl
length-flat_map-total f g (k ∷ ks) each = let a = each k in let b = length-flat_map-total f g ks each in let c = length-append (f k) (flat_map f ks) in omega arith

-- all names from one on
all_from : Tree → ℕ → List ℕ → List (List ℕ)
all_from tree zero name = name ∷ []
all_from tree (suc more) name = name ∷ flat_map (λ k. all_from tree more (below name k)) (tree.children name)

length-all_from : (tree : Tree) (more : ℕ) (name : List ℕ) → length (all_from tree more name) ≡ nodes_from tree more name
unfolding all_from
length-all_from tree zero name = refl
length-all_from tree (suc more) name = let rest = length-flat_map-total (λ k. all_from tree more (below name k)) (λ k. nodes_from tree more (below name k)) (tree.children name) (λ k. length-all_from tree more (below name k)) in omega arith

first_in : (tree : Tree) (more : ℕ) (name : List ℕ) → Contains (all_from tree more name) name
unfolding all_from
first_in tree zero name = Contains-here name []
first_in tree (suc more) name = Contains-here name (flat_map (λ k. all_from tree more (below name k)) (tree.children name))

child_in : (tree : Tree) → ((name : List ℕ) → tree.height ≤ length name → tree.children name ≡ []) → (more : ℕ) (base name : List ℕ) (k : ℕ) → tree.height ≤ length base + more → Contains (all_from tree more base) name → Contains (tree.children name) k
    → Contains (all_from tree more base) (below name k)
unfolding all_from
child_in tree ends zero base name k high there has = elim (Contains-cases base name [] there) [
  | inl same ↦ (let long : length base ≡ length name = ap length same in absurd (none_in_empty k (subst (λ l. Contains l k) (ends name (omega arith)) has)))
  | inr nil ↦ absurd (none_in_empty name nil)
]
child_in tree ends (suc more) base name k high there has = let f : ℕ → List (List ℕ) = λ j. all_from tree more (below base j) in let ks : List ℕ = tree.children base in
    elim (Contains-cases base name (flat_map f ks) there) [
      | inl same ↦ Contains-there base (below name k) (flat_map f ks) (in_flat_map f ks k (below name k) (subst (λ n. Contains (tree.children n) k) (sym same) has)
          (subst (λ n. Contains (f k) (below n k)) same (first_in tree more (below base k))))
      | inr rest ↦ (let o = of_flat_map f ks name rest in let long : length (below base o.0) ≡ length base + 1 = length-append base (o.0 ∷ []) in
          Contains-there base (below name k) (flat_map f ks) (in_flat_map f ks o.0 (below name k) o.1 (child_in tree ends more (below base o.0) name k (omega arith) o.2 has)))
    ]

not_below : (name : List ℕ) (k : ℕ) → below name k ≡ [] → ⊥
not_below name k is = let long = ap length is in let more = length-append name (k ∷ []) in let one : length (below name k) ≡ 0 = long in omega arith

same_below : (a b : List ℕ) (j k : ℕ) → below a j ≡ below b k → (a ≡ b) × (j ≡ k)
same_below [] [] j k is = (refl, cc)
same_below [] (y ∷ b) j k is = let t : [] ≡ below b k = cc in absurd (not_below b k (sym t))
same_below (x ∷ a) [] j k is = let t : below a j ≡ [] = cc in absurd (not_below a j t)
same_below (x ∷ a) (y ∷ b) j k is = let t : below a j ≡ below b k = cc in let h : x ≡ y = cc in let r = same_below a b j k t in let q = r.0 in (cc, r.1)

module _ (tree : Tree) (ends : (name : List ℕ) → tree.height ≤ length name → tree.children name ≡ []) (all : List (List ℕ)) (parent part : ℕ → ℕ) (a : AreNames tree all parent part) where
  is_name : (fuel n : ℕ) → n < fuel → n < length all → Contains (all_from tree tree.height []) (name_at all n)
  is_name zero n lt within = absurd (omega arith)
  is_name (suc fuel) zero lt within = subst (λ m. Contains (all_from tree tree.height []) m) (sym a.root) (first_in tree tree.height [])
  is_name (suc fuel) (suc n) lt within = let low = a.lesser (suc n) (omega arith) within in
      subst (λ m. Contains (all_from tree tree.height []) m) (sym (a.is (suc n) (omega arith) within))
      (child_in tree ends tree.height [] (name_at all (parent (suc n))) (part (suc n)) (omega arith) (is_name fuel (parent (suc n)) (omega arith) (omega arith)) (a.child (suc n) (omega arith) within))

  one_number : (fuel n m : ℕ) → n < fuel → n < length all → m < length all → name_at all n ≡ name_at all m → n ≡ m
  one_number zero n m lt b c same = absurd (omega arith)
  one_number (suc fuel) zero zero lt b c same = refl
  one_number (suc fuel) zero (suc m) lt b c same = absurd (not_below (name_at all (parent (suc m))) (part (suc m)) (sym (a.is (suc m) (omega arith) c) ∙ sym same ∙ a.root))
  one_number (suc fuel) (suc n) zero lt b c same = absurd (not_below (name_at all (parent (suc n))) (part (suc n)) (sym (a.is (suc n) (omega arith) b) ∙ same ∙ a.root))
  one_number (suc fuel) (suc n) (suc m) lt b c same = let both = same_below (name_at all (parent (suc n))) (name_at all (parent (suc m))) (part (suc n)) (part (suc m)) (sym (a.is (suc n) (omega arith) b) ∙ same ∙ a.is (suc m) (omega arith) c) in
      let low = a.lesser (suc n) (omega arith) b in let high = a.lesser (suc m) (omega arith) c in
      let parents : parent (suc n) ≡ parent (suc m) = one_number fuel (parent (suc n)) (parent (suc m)) (omega arith) (omega arith) (omega arith) both.0 in
      a.once (suc n) (suc m) (omega arith) (omega arith) b c parents both.1

  at_place : (name : List ℕ) → Contains all name → Contains (all_from tree tree.height []) name
  at_place name there = let n : ℕ = there.0 in let lt = there.1 in subst (λ m. Contains (all_from tree tree.height []) m) (same_there all n [] name lt ∙ there.2) (is_name (suc n) n (omega arith) lt)

  few_numbers : length all ≤ node_count tree
  few_numbers = let few = no_longer all (all_from tree tree.height []) (differ_by_place all [] (λ i j lt high e. one_number (suc i) i j (omega arith) lt high e)) at_place in let size = length-all_from tree tree.height [] in omega arith

pub within_names : NumbersAreNames
within_names tree names parent part ends are = few_numbers tree ends names parent part are

pub within_size : {N P : Type 0} (m : Meaning N P) → IsLawful m → NumbersAreNames → NumbersAreWithinSize m
within_size m laws numbers names parent part small are = let few = numbers m.tree names parent part laws.ends are in let known = laws.counted small in omega arith
