-- The nodes of a tree are numbered from 1, and the parent of i is i / 2.
use Rattle.std.specs.Prelude.{◌≡◌, ℕ, zero, suc, ◌/◌, ◌≤◌, ◌⊎◌}

-- the node so many steps up from i
abbrev pub halved : ℕ → ℕ → ℕ
halved zero i = i
halved (suc n) i = halved n (i / 2)

-- a is a proper ancestor of i: one step up from it, or more
pub record IsAbove (a i : ℕ) : Type 0 where
  pub steps : ℕ
  pub positive : 1 ≤ a
  pub is : halved (suc steps) i ≡ a

-- a is i, or a proper ancestor of it
abbrev pub IsAtOrAbove : ℕ → ℕ → Type 0
IsAtOrAbove a i = (a ≡ i) ⊎ IsAbove a i
