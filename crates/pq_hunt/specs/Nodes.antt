-- The nodes of a heap, each as what it counts as. The list of them has a place 0, which stands for no node and is
-- Empty, and what is past the end of the list is Empty.
use Rattle.std.specs.Prelude.{◌≡◌, ℕ, ◌<◌, ◌≤◌, List, [], ◌∷◌, length, ◌==◌, if◌then◌else◌}
use lib.ListN.{get_or}
use Rattle.pq_words.specs.declared.entries.Entry.{Entry}
use Rattle.pq_hunt.specs.declared.nodes.Node.{Node}
use Rattle.pq_hunt.specs.declared.nodes.Node.TheVariants.{Empty, Available, Busy, Hole}

-- the node with this number
abbrev pub node : List Node → ℕ → Node
node nodes i = get_or nodes i Empty

-- 1 where a node is not Empty, else 0
abbrev pub used : Node → ℕ
used Empty = 0
used (Available e) = 1
used (Busy o e) = 1
used (Hole e) = 1

-- 1 where a node is Busy with this owner, else 0
abbrev pub busy_of : ℕ → Node → ℕ
busy_of owner Empty = 0
busy_of owner (Available e) = 0
busy_of owner (Busy o e) = if o == owner then 1 else 0
busy_of owner (Hole e) = 0

-- the Available entries and the entries in hand, in the order of their nodes
abbrev pub standing : List Node → List Entry
standing [] = []
standing (Empty ∷ nodes) = standing nodes
standing (Available e ∷ nodes) = e ∷ standing nodes
standing (Busy o e ∷ nodes) = standing nodes
standing (Hole e ∷ nodes) = e ∷ standing nodes

-- Fact 1: the nodes 1 to size, and no others, are Available, Busy or the hole of a remover.
pub record IsShape (size : ℕ) (nodes : List Node) : Type 0 where
  pub within : size < length nodes
  pub filled : (i : ℕ) → 1 ≤ i → i ≤ size → used (node nodes i) ≡ 1
  pub clear : (i : ℕ) → size < i → node nodes i ≡ Empty
  pub first : node nodes 0 ≡ Empty
