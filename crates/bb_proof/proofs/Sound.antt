-- Where tokens are accepted for a cost, no plan costs less.
use Rattle.std.proofs.Common.{ℕ, zero, suc, ◌<◌, ◌≤◌, Bool, true, false, List, [], ◌∷◌, ◌++◌, map, inl, inr, sym, subst, arith}
use Rattle.std.specs.Prelude.{Contains}
use Rattle.std.proofs.lemmas.Bool.{cases_lt}
use Rattle.inst_text.specs.Knapsack.{Instance}
use Rattle.bb_problem.specs.Tree.{below}
use Rattle.bb_problem.specs.Meaning.{Meaning, IsLawful}
use Rattle.bb_knap.specs.Branching.{tree_of, meaning_of}
use Rattle.bb_knap.specs.TreeLawsHold.Tree.{is_lawful}
use Rattle.bb_proof.specs.Tokens.{Accepts, IsAccepted, names_below}
use Rattle.bb_proof.specs.Verdicts.{IsBelowAll}

-- none of these nodes reaches the cost
NoneReach : (List ℕ → ℕ → Type 0) → ℕ → List (List ℕ) → Type 0
NoneReach reaches v [] = Unit {0}
NoneReach reaches v (name ∷ rest) = (reaches name v → ⊥) × NoneReach reaches v rest

front_none : (reaches : List ℕ → ℕ → Type 0) (v : ℕ) (ns ms : List (List ℕ)) → NoneReach reaches v (ns ++ ms) → NoneReach reaches v ns
unfolding NoneReach
front_none reaches v [] ms none = tt
front_none reaches v (n ∷ ns) ms none = (none.0, front_none reaches v ns ms (none.1))

back_none : (reaches : List ℕ → ℕ → Type 0) (v : ℕ) (ns ms : List (List ℕ)) → NoneReach reaches v (ns ++ ms) → NoneReach reaches v ms
unfolding NoneReach
back_none reaches v [] ms none = none
back_none reaches v (n ∷ ns) ms none = back_none reaches v ns ms (none.1)

-- nor does the child at a place
child_none : (reaches : List ℕ → ℕ → Type 0) (v : ℕ) (name ks : List ℕ) → NoneReach reaches v (map (below name) ks) → (k : ℕ) → Contains ks k → reaches (below name k) v → ⊥
unfolding NoneReach
child_none reaches v name [] none k there reached = absurd (omega (arith, there.1))
child_none reaches v name (j ∷ ks) none k (zero, inside, is) reached = none.0 (subst (λ n. reaches (below name n) v) (sym is) reached)
child_none reaches v name (j ∷ ks) none k (suc place, inside, is) reached = child_none reaches v name ks (none.1) k (place, omega (arith, inside), is) reached

none_reach : {N P : Type 0} (m : Meaning N P) → IsLawful m → (cost v : ℕ) → v < cost → (pending : List (List ℕ)) (tokens : List Bool) → Accepts m.tree cost pending tokens → NoneReach m.reaches v pending
unfolding NoneReach
none_reach m law cost v lt [] [] accepted = tt
none_reach m law cost v lt [] (token ∷ tokens) accepted = absurd accepted
none_reach m law cost v lt (name ∷ rest) [] accepted = absurd accepted
none_reach m law cost v lt (name ∷ rest) (false ∷ tokens) accepted = (
  λ reached. absurd (omega (arith, law.bounded name v reached, accepted.0, lt)),
  none_reach m law cost v lt rest tokens (accepted.1),
)
none_reach m law cost v lt (name ∷ rest) (true ∷ tokens) accepted =
    let none = none_reach m law cost v lt (names_below m.tree name ++ rest) tokens (accepted.1) in (
      λ reached. let p = law.passed_on name v reached (accepted.0) in
          child_none m.reaches v name (m.tree.children name) (front_none m.reaches v (names_below m.tree name) rest none) (p.0) (p.1) (p.2),
      back_none m.reaches v (names_below m.tree name) rest none,
    )

-- nothing of the search: the laws of a problem's tree alone
below_of : {N P : Type 0} (m : Meaning N P) → IsLawful m → (cost : ℕ) (tokens : List Bool) → IsAccepted m.tree cost tokens → (plan : P) → m.is_feasible plan → cost ≤ m.cost_of plan
unfolding NoneReach
below_of m law cost tokens accepted plan feasible =
    elim (cases_lt (m.cost_of plan) cost) [
      | inl lt ↦ absurd ((none_reach m law cost (m.cost_of plan) lt ([] ∷ []) tokens accepted).0 (law.reached plan feasible))
      | inr le ↦ le
    ]

pub accepted_is_below : (i : Instance) (cost : ℕ) (tokens : List Bool) → IsAccepted (tree_of i) cost tokens → IsBelowAll i cost
accepted_is_below i cost tokens accepted = below_of (meaning_of i) (is_lawful i) cost tokens accepted
