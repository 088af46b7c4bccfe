-- Proofs that no plan costs less than a number: tokens of a walk through a tree in preorder. A token is true to
-- branch into a node's children, and false to close the node.
use Rattle.std.specs.Prelude.{ℕ, zero, suc, ◌≢◌, ◌+◌, ◌≤◌, nat_le, not, Bool, true, false, if◌then◌else◌}
use Rattle.std.specs.Prelude.{List, [], ◌∷◌, ◌++◌, map, Option, Some, None}
use Rattle.std.specs.List.{flat_map}
use Rattle.bb_problem.specs.Tree.{Tree, below}

-- how many tokens a proof has at most
abbrev pub proof_limit : ℕ
proof_limit = 2097152

-- the names of a node's children, in their order
abbrev pub names_below : Tree → List ℕ → List (List ℕ)
names_below tree name = map (below name) (tree.children name)

-- The canonical proof of a cost from a node on: it closes the node exactly where its bound is at least the cost.
-- The first number is how much longer names get.
abbrev pub canonical_from : Tree → ℕ → ℕ → List ℕ → List Bool
canonical_from tree cost zero name = not (nat_le cost (tree.bound name)) ∷ []
canonical_from tree cost (suc more) name =
    if nat_le cost (tree.bound name) then false ∷ []
    else true ∷ flat_map (λ k. canonical_from tree cost more (below name k)) (tree.children name)

-- the canonical proof of a cost
abbrev pub canonical : Tree → ℕ → List Bool
canonical tree cost = canonical_from tree cost tree.height []

-- A walk that still has to come to these nodes accepts the tokens: it uses all of them and ends with them, closes no
-- node whose bound is below the cost, and branches at no leaf.
abbrev pub Accepts : Tree → ℕ → List (List ℕ) → List Bool → Type 0
Accepts tree cost [] [] = Unit {0}
Accepts tree cost [] (token ∷ tokens) = ⊥
Accepts tree cost (name ∷ rest) [] = ⊥
Accepts tree cost (name ∷ rest) (false ∷ tokens) = (cost ≤ tree.bound name) × Accepts tree cost rest tokens
Accepts tree cost (name ∷ rest) (true ∷ tokens) =
    (tree.children name ≢ []) × Accepts tree cost (names_below tree name ++ rest) tokens

-- the tokens are accepted for a cost
abbrev pub IsAccepted : Tree → ℕ → List Bool → Type 0
IsAccepted tree cost tokens = Accepts tree cost ([] ∷ []) tokens

abbrev pub is_none : {A : Type 0} → List A → Bool
is_none [] = true
is_none (x ∷ xs) = false

-- the token may stand at the node of this name
abbrev pub is_right : Tree → ℕ → List ℕ → Bool → Bool
is_right tree cost name true = not (is_none (tree.children name))
is_right tree cost name false = nat_le cost (tree.bound name)

-- the nodes that are still to come to behind the token
abbrev pub behind : Tree → List ℕ → Bool → List (List ℕ) → List (List ℕ)
behind tree name true rest = names_below tree name ++ rest
behind tree name false rest = rest

-- so many places further on
abbrev pub later : ℕ → Option ℕ → Option ℕ
later n None = None
later n (Some place) = Some (n + place)

-- The first place at which a walk that still has to come to these nodes does not accept the tokens: that of a token
-- that may not stand there, of the first token behind the walk's end, or behind the last token where it needs more.
unfoldable pub bad_token : Tree → ℕ → List (List ℕ) → List Bool → Option ℕ
bad_token tree cost [] [] = None
bad_token tree cost [] (token ∷ tokens) = Some 0
bad_token tree cost (name ∷ rest) [] = Some 0
bad_token tree cost (name ∷ rest) (token ∷ tokens) =
    if is_right tree cost name token
    then later 1 (bad_token tree cost (behind tree name token rest) tokens)
    else Some 0

-- the first place at which a proof of a cost fails
abbrev pub first_bad : Tree → ℕ → List Bool → Option ℕ
first_bad tree cost tokens = bad_token tree cost ([] ∷ []) tokens
