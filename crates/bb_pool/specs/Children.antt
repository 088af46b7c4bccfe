-- The children of a branch, and those that a search keeps: whose bounds are below the best cost so far.
use Rattle.std.specs.Prelude.{ℕ, ◌≡◌, List, [], ◌∷◌, Option, filter}
use Rattle.bb_problem.specs.Tree.{Tree}
use Rattle.bb_problem.specs.Meaning.{Meaning}
use Rattle.bb_pool.specs.Costs.{is_better}

-- the nodes stand, in order, under these names
abbrev pub StandAt : {N : Type 0} → (N → List ℕ → Type 0) → List N → List (List ℕ) → Type 0
StandAt stands [] [] = Unit {0}
StandAt stands (node ∷ nodes) (name ∷ names) = stands node name × StandAt stands nodes names
StandAt stands _ _ = ⊥

-- these keys are, in order, the bounds of the nodes
abbrev pub AreBounds : {N P : Type 0} → Meaning N P → List N → List ℕ → Type 0
AreBounds m [] [] = Unit {0}
AreBounds m (node ∷ nodes) (key ∷ keys) =
    ((name : List ℕ) → m.stands node name → key ≡ m.tree.bound name) × AreBounds m nodes keys
AreBounds m _ _ = ⊥

-- those of the keys that are below the best cost
abbrev pub better_keys : Option ℕ → List ℕ → List ℕ
better_keys best keys = filter (λ key. is_better key best) keys

-- those of the names whose bounds are
abbrev pub better_names : Tree → Option ℕ → List (List ℕ) → List (List ℕ)
better_names tree best names = filter (λ name. is_better (tree.bound name) best) names
