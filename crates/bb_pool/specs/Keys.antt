-- Where the nodes of a search lie: under the keys that are kept of their numbers.
use Rattle.std.specs.Prelude.{ℕ, ◌≡◌, ◌-◌, ◌^◌, List, [], ◌∷◌, All, Option, Some, None, slice_index_or, slice_get}

-- the key of a node that was taken
abbrev pub taken_key : ℕ
taken_key = 2 ^ 32 - 1

-- what lies under the key
abbrev pub node_in : {N : Type 0} → List (Option N) → ℕ → Option N
node_in slots key = slice_index_or slots key None

-- a node is there for this number
abbrev pub Holds : {N : Type 0} → List (Option N) → ℕ → Type 0
Holds {N} nodes number = (node : N) × (slice_get nodes number ≡ Some (Some node))

-- a key under which nothing lies is that of a node that was taken
abbrev pub IsInUse : {N : Type 0} → List (Option N) → ℕ → Type 0
IsInUse slots key = node_in slots key ≡ None → key ≡ taken_key

-- where two numbers have one key, nothing lies under it
abbrev pub AreApart : {N : Type 0} → List (Option N) → List ℕ → Type 0
AreApart slots [] = Unit {0}
AreApart slots (k ∷ ks) = All (λ (j : ℕ). j ≡ k → node_in slots k ≡ None) ks × AreApart slots ks

pub record AreKeys {N : Type 0} (slots : List (Option N)) (keys : List ℕ) : Type 0 where
  pub none_taken : node_in slots taken_key ≡ None
  pub in_use : All (IsInUse slots) keys
  pub apart : AreApart slots keys
