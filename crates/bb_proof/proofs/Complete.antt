-- Where no feasible choice costs less, the canonical proof is accepted.
use Rattle.std.proofs.Common.{◌≡◌, ℕ, zero, suc, ◌+◌, ◌-◌, ◌≤◌, Bool, false, List, [], ◌∷◌, ◌++◌, map, inl, inr, refl, sym, ap, ◌∙◌, subst, length, arith}
use Rattle.std.specs.List.{flat_map}
use Rattle.std.proofs.lemmas.Bool.{le-leb}
use Rattle.std.proofs.lemmas.Bool.Decides.{leb_tells}
use Rattle.std.proofs.lemmas.List.{append_assoc, append-nil, length_push}
use Rattle.inst_text.specs.declared.knapsack.Item.{Item}
use Rattle.inst_text.specs.Knapsack.{Instance, total_value}
use Rattle.bb_problem.specs.Tree.{Tree, below}
use Rattle.bb_knap.specs.Plans.{item_at, weight_of, value_of, IsFeasible, IsBest, cost_of}
use Rattle.bb_knap.specs.Order.{order_of}
use Rattle.bb_knap.specs.Branching.{taken, dantzig, taken_of, rest_of, room_of, bound_of, choices_at, children_of, tree_of}
use Rattle.bb_knap.specs.TreeLawsHold.Taken.{taken-left, taken-taken}
use Rattle.bb_knap.specs.TreeLawsHold.Dantzig.{taken-none}
use Rattle.bb_knap.specs.TreeLawsHold.Tree.{weight_of-more, children-none}
use Rattle.bb_knap.proofs.Chosen.{some_plan}
use Rattle.bb_proof.specs.declared.verdict.ProofVerdict.{ProofVerdict}
use Rattle.bb_proof.specs.declared.verdict.ProofVerdict.TheVariants.{Proved, BadWeight, BadValue, BadToken}
use Rattle.bb_proof.specs.Tokens.{canonical_from, canonical, Accepts, IsAccepted, names_below}
use Rattle.bb_proof.specs.Verdicts.{IsBelowAll, IsProofVerdict}
use Rattle.bb_proof.proofs.Accepted.{none_of}

AreAll : (List ℕ → Type 0) → List (List ℕ) → Type 0
AreAll Good [] = Unit {0}
AreAll Good (name ∷ rest) = Good name × AreAll Good rest

-- names that children keep, at whose leaves the bound is at least the cost
record IsGrown (tree : Tree) (cost : ℕ) (Good : List ℕ → Type 0) : Type 0 where
  leaf : (name : List ℕ) → Good name → tree.children name ≡ [] → cost ≤ tree.bound name
  grow : (name : List ℕ) → Good name → AreAll Good (names_below tree name)
  ends : (name : List ℕ) → tree.height ≤ length name → tree.children name ≡ []

-- what each child's tokens are accepted for, all children's are
each_accepted : (tree : Tree) (cost : ℕ) (Good : List ℕ → Type 0) (name ks : List ℕ) (f : ℕ → List Bool)
    → ((k : ℕ) → Good (below name k) → (rest : List (List ℕ)) (tokens : List Bool) → Accepts tree cost rest tokens → Accepts tree cost (below name k ∷ rest) (f k ++ tokens))
    → AreAll Good (map (below name) ks) → (rest : List (List ℕ)) (tokens : List Bool) → Accepts tree cost rest tokens
    → Accepts tree cost (map (below name) ks ++ rest) (flat_map f ks ++ tokens)
unfolding AreAll
each_accepted tree cost Good name [] f each good rest tokens accepted = accepted
each_accepted tree cost Good name (k ∷ ks) f each good rest tokens accepted =
    let P : List Bool → Type 0 = λ ts. Accepts tree cost (below name k ∷ (map (below name) ks ++ rest)) ts in
    subst P (sym (append_assoc (f k) (flat_map f ks) tokens))
    (each k (good.0) (map (below name) ks ++ rest) (flat_map f ks ++ tokens) (each_accepted tree cost Good name ks f each (good.1) rest tokens accepted))

closes : (tree : Tree) (cost : ℕ) (more : ℕ) (name : List ℕ) → cost ≤ tree.bound name → canonical_from tree cost more name ≡ false ∷ []
closes tree cost zero name le = rw (le-leb cost (tree.bound name) le) refl
closes tree cost (suc more) name le = rw (le-leb cost (tree.bound name) le) refl

accepted_closed : (tree : Tree) (cost : ℕ) (more : ℕ) (name : List ℕ) (rest : List (List ℕ)) (tokens : List Bool) → cost ≤ tree.bound name → Accepts tree cost rest tokens
    → Accepts tree cost (name ∷ rest) (canonical_from tree cost more name ++ tokens)
accepted_closed tree cost more name rest tokens le accepted =
    let P : List Bool → Type 0 = λ ts. Accepts tree cost (name ∷ rest) (ts ++ tokens) in
    let closed : P (false ∷ []) = (le, accepted) in
    subst P (sym (closes tree cost more name le)) closed

accepted_from : (tree : Tree) (cost : ℕ) (Good : List ℕ → Type 0) → IsGrown tree cost Good → (more : ℕ) (name : List ℕ) → Good name → length name + more ≡ tree.height
    → (rest : List (List ℕ)) (tokens : List Bool) → Accepts tree cost rest tokens → Accepts tree cost (name ∷ rest) (canonical_from tree cost more name ++ tokens)
accepted_from tree cost Good grown zero name good deep rest tokens accepted =
    accepted_closed tree cost zero name rest tokens (grown.leaf name good (grown.ends name (omega (arith, deep)))) accepted
accepted_from tree cost Good grown (suc more) name good deep rest tokens accepted =
    elim (leb_tells cost (tree.bound name)) [
      | inl high ↦ accepted_closed tree cost (suc more) name rest tokens (high.1) accepted
      | inr low ↦ rw (low.0) (
        λ none. absurd (omega (arith, grown.leaf name good none, low.1)),
        each_accepted tree cost Good name (tree.children name) (λ k. canonical_from tree cost more (below name k))
            (λ k good_child next further acc. accepted_from tree cost Good grown more (below name k) good_child (omega (arith, length_push name k, deep)) next further acc)
            (grown.grow name good) rest tokens accepted,
      )
    ]

-- decisions whose items fit
Fits : Instance → List ℕ → Type 0
Fits i name = weight_of i.items (taken_of i name) ≤ i.capacity

no_choices : (items : List Item) (room : ℕ) (rest : List ℕ) → choices_at items room rest ≡ [] → rest ≡ []
unfolding choices_at
no_choices items room [] none = refl
no_choices items room (k ∷ ks) none =
    elim (leb_tells (item_at items k).weight room) [
      | inl light ↦ let e = rw (light.0) at none in absurd (cc)
      | inr heavy ↦ let e = rw (heavy.0) at none in absurd (cc)
    ]

leaf_bound : (i : Instance) (name : List ℕ) → children_of i name ≡ [] → bound_of i name ≡ total_value i.items - value_of i.items (taken_of i name)
unfolding children_of bound_of dantzig
leaf_bound i name none =
    let rest : rest_of i name ≡ [] = no_choices i.items (room_of i name) (rest_of i name) none in
    let nothing : dantzig i.items (room_of i name) (rest_of i name) ≡ 0 = ap (dantzig i.items (room_of i name)) rest in
    omega (arith, nothing)

-- a leaf has a feasible choice of just what it takes
leaf_high : (i : Instance) (cost : ℕ) (name : List ℕ) → IsBelowAll i cost → Fits i name → children_of i name ≡ [] → cost ≤ bound_of i name
unfolding Fits
leaf_high i cost name below_all fits none =
    let p = some_plan i name in
    let feasible : IsFeasible i (p.0) = record { chosen = (p.1).chosen; fits = omega (arith, (p.1).weight, fits) } in
    omega (arith, below_all (p.0) feasible, (p.1).value, leaf_bound i name none)

fits_leaving : (i : Instance) (name : List ℕ) (k : ℕ) (ks : List ℕ) → rest_of i name ≡ k ∷ ks → Fits i name → Fits i (below name 0)
unfolding Fits
fits_leaving i name k ks rest fits =
    let none : taken (rest_of i name) (0 ∷ []) ≡ [] = ap (λ xs. taken xs (0 ∷ [])) rest ∙ taken-left k ks [] ∙ taken-none ks in
    omega (arith, weight_of-more i name (0 ∷ []), ap (weight_of i.items) none, fits)

fits_taking : (i : Instance) (name : List ℕ) (k : ℕ) (ks : List ℕ) → rest_of i name ≡ k ∷ ks → (item_at i.items k).weight ≤ room_of i name → Fits i name → Fits i (below name 1)
unfolding Fits
fits_taking i name k ks rest light fits =
    let one : taken (rest_of i name) (1 ∷ []) ≡ k ∷ [] = ap (λ xs. taken xs (1 ∷ [])) rest ∙ taken-taken k 0 ks [] ∙ ap (λ xs. k ∷ xs) (taken-none ks) in
    omega (arith, weight_of-more i name (1 ∷ []), ap (weight_of i.items) one, fits, light)

grow_at : (i : Instance) (name rest : List ℕ) → rest_of i name ≡ rest → Fits i name → AreAll (Fits i) (map (below name) (choices_at i.items (room_of i name) rest))
unfolding choices_at AreAll
grow_at i name [] rest fits = tt
grow_at i name (k ∷ ks) rest fits =
    elim (leb_tells (item_at i.items k).weight (room_of i name)) [
      | inl light ↦ rw (light.0) (fits_taking i name k ks rest (light.1) fits, (fits_leaving i name k ks rest fits, tt))
      | inr heavy ↦ rw (heavy.0) (fits_leaving i name k ks rest fits, tt)
    ]

grow_fits : (i : Instance) (name : List ℕ) → Fits i name → AreAll (Fits i) (map (below name) (children_of i name))
unfolding children_of
grow_fits i name fits = grow_at i name (rest_of i name) refl fits

fits_root : (i : Instance) → Fits i []
unfolding Fits taken
fits_root i = omega (arith, ap (weight_of i.items) (taken-none (order_of i.items)))

pub canonical_accepted : (i : Instance) (cost : ℕ) → IsBelowAll i cost → IsAccepted (tree_of i) cost (canonical (tree_of i) cost)
canonical_accepted i cost below_all =
    let grown : IsGrown (tree_of i) cost (Fits i) = record {
      leaf = λ name fits none. leaf_high i cost name below_all fits none;
      grow = λ name fits. grow_fits i name fits;
      ends = λ name le. children-none i name le;
    } in
    let P : List Bool → Type 0 = λ ts. IsAccepted (tree_of i) cost ts in
    subst P (append-nil (canonical (tree_of i) cost)) (accepted_from (tree_of i) cost (Fits i) grown (length i.items) [] (fits_root i) (omega arith) [] [] tt)

pub below_best : (i : Instance) (choice : List ℕ) → IsBest i choice → IsBelowAll i (cost_of i choice)
below_best i choice best other feasible = omega (arith, best.best other feasible)

pub best_proved : (i : Instance) (choice : List ℕ) (verdict : ProofVerdict) → IsBest i choice
    → IsProofVerdict i choice (value_of i.items choice) (canonical (tree_of i) (cost_of i choice)) verdict → verdict ≡ Proved
best_proved i choice (BadWeight w) best v = absurd (omega (arith, v.0, v.1, best.feasible.fits))
best_proved i choice (BadValue w) best v = absurd (v.2 (v.1))
best_proved i choice (BadToken place) best v =
    let none = none_of (tree_of i) (cost_of i choice) ([] ∷ []) (canonical (tree_of i) (cost_of i choice)) (canonical_accepted i (cost_of i choice) (below_best i choice best)) in
    let bad = v.bad in
    absurd (cc)
best_proved i choice Proved best v = refl
