-- Laws of the order of a tree: what it says of the root, and which steps keep it.
use Rattle.std.specs.Prelude.{◌≡◌, ◌≢◌, ℕ, ◌+◌, ◌*◌, ◌/◌, ◌≤◌}
use Rattle.pq_nodes.specs.Ancestors.{IsAbove}
use Rattle.pq_nodes.specs.Order.{IsOrder}

-- the node is as it was
pub record IsSame (b s b' s' : ℕ → ℕ) (i : ℕ) : Type 0 where
  pub bound : b' i ≡ b i
  pub stand : s' i ≡ s i

-- a number is not above what stands at a node and below it
pub record IsOver (s : ℕ → ℕ) (x c : ℕ) : Type 0 where
  pub at : x ≤ s c
  pub below : (i : ℕ) → IsAbove c i → x ≤ s i

-- what stands at a node is bounded by the root
abbrev pub RootsAreLeast : Type 0
RootsAreLeast = (b s : ℕ → ℕ) (i : ℕ) → IsOrder b s → 2 ≤ i → b 1 ≤ s i

-- one node changes
abbrev pub ChangesKeepOrder : Type 0
ChangesKeepOrder = (b s b' s' : ℕ → ℕ) (h : ℕ) → IsOrder b s → ((i : ℕ) → i ≢ h → IsSame b s b' s' i)
    → ((a : ℕ) → IsAbove a h → b a ≤ s' h) → ((i : ℕ) → IsAbove h i → b' h ≤ s i) → IsOrder b' s'

-- What stood at the child c moves into the hole h, and what was in hand there moves to c, which is the hole. The other
-- child is d
abbrev pub SwapsKeepOrder : Type 0
SwapsKeepOrder = (b s b' s' : ℕ → ℕ) (h c d : ℕ) → IsOrder b s → 1 ≤ h → c / 2 ≡ h → c + d ≡ 4 * h + 1
    → ((i : ℕ) → i ≢ h → i ≢ c → IsSame b s b' s' i) → b' h ≡ b c → s' h ≡ s c → b' c ≡ 0 → s' c ≡ s h
    → b c ≤ s h → IsOver s (b c) d → IsOrder b' s'

-- what climbs from the child c takes the place of what stood at its parent p, which goes to c
abbrev pub ClimbsKeepOrder : Type 0
ClimbsKeepOrder = (b s b' s' : ℕ → ℕ) (p c : ℕ) → IsOrder b s → 1 ≤ p → c / 2 ≡ p
    → ((i : ℕ) → i ≢ p → i ≢ c → IsSame b s b' s' i) → b' p ≤ b p → s p ≤ s' p → b' c ≤ b p → s' c ≡ s p → b' p ≤ s' c
    → IsOrder b' s'
