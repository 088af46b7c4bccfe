-- What a mound keeps between any two steps. A locked node counts with the list that its holder's view names, and the
-- free cells are those that the view of the seat names that holds the cells' lock.
use Rattle.std.specs.Prelude.{◌≡◌, ℕ, ◌<◌, List, [], length}
use Rattle.pq_words.specs.declared.entries.Entry.{Entry}
use Rattle.pq_model.specs.Multiset.{IsRising, sorted_of}
use Rattle.pq_mound.specs.declared.nodes.Node.{Node}
use Rattle.pq_mound.specs.declared.nodes.Node.TheVariants.{Resting}
use Rattle.pq_mound.specs.Nodes.{node, cells, all_cells, entries, numbers}
use Rattle.pq_mound.specs.Order.{IsOrdered}
use Rattle.pq_mound.specs.Cells.{IsDealt}

-- the facts of a mound with this capacity, these free cells, cells that seats hold, and nodes, and the multiset m
pub record MoundFacts (capacity : ℕ) (free held : List ℕ) (nodes : List Node) (m : List Entry) : Type 0 where
  pub rooted : 1 < length nodes
  pub first : node nodes 0 ≡ Resting []
  pub sorted : (i : ℕ) → IsRising (entries (cells (node nodes i)))  -- each list is sorted
  pub ordered : IsOrdered nodes
  pub holds : m ≡ sorted_of (entries (all_cells nodes))  -- the multiset is the entries of all lists
  pub dealt : IsDealt capacity (numbers (all_cells nodes)) free held
