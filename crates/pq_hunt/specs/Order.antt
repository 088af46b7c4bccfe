-- Fact 2, the order of a heap in which several removers sift.
use Rattle.std.specs.Prelude.{◌≡◌, ℕ, ◌/◌, ◌≤◌, ◌⊎◌, List}
use Rattle.pq_words.specs.declared.entries.Entry.{Entry}
use Rattle.pq_words.specs.Entries.{raw_of}
use Rattle.pq_nodes.specs.Ancestors.{IsAbove}
use Rattle.pq_hunt.specs.declared.nodes.Node.{Node}
use Rattle.pq_hunt.specs.declared.nodes.Node.TheVariants.{Empty, Available, Busy, Hole}
use Rattle.pq_hunt.specs.Nodes.{node}

-- the entry is Available at the node, or in hand at it, where it is a hole
abbrev pub StandsAt : Node → Entry → Type 0
StandsAt v e = (v ≡ Available e) ⊎ (v ≡ Hole e)

-- the node is Available or Busy, and no hole, and this is its entry
abbrev pub HasWord : Node → Entry → Type 0
HasWord v e = (v ≡ Available e) ⊎ ((o : ℕ) × (v ≡ Busy o e))

-- Fact 2: an Available entry, and an entry in hand at its hole, is not below the entry of any proper ancestor,
-- Available or Busy, except where that ancestor is a hole. Busy entries are not ordered against their ancestors.
pub record IsOrdered (nodes : List Node) : Type 0 where
  pub order : (a i : ℕ) (above e : Entry) → IsAbove a i → HasWord (node nodes a) above → StandsAt (node nodes i) e
      → raw_of above ≤ raw_of e

-- An entry may be put over a node, as its parent, where the node is Empty, or has a word with no lower entry. It may
-- not where the node is a hole.
abbrev pub MayStandOver : Entry → Node → Type 0
MayStandOver e Empty = Unit {0}
MayStandOver e (Available x) = raw_of e ≤ raw_of x
MayStandOver e (Busy o x) = raw_of e ≤ raw_of x
MayStandOver e (Hole x) = ⊥

-- a Busy entry may end its climb at a node that is the root, or has an Available parent with no greater entry
abbrev pub MaySettle : List Node → ℕ → Entry → Type 0
MaySettle nodes c e = (c ≡ 1) ⊎ ((x : Entry) × (node nodes (c / 2) ≡ Available x) × (raw_of x ≤ raw_of e))
